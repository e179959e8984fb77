-- What writing a page answers: a refusal if the strip was refused (`written_nothing`), and otherwise the page, if it fits (`written_page`).
-- A strip that was not refused is that of a month from 1 on (`nat_abs-pos`), and its page has at most 199 bytes (`length-page_bytes-le`).
-- Assumes nothing.
use Rattle.std.specs.Prelude.{Err, None, Option, Result, Some}
use mathlib.Core.Path.{◌≡◌, refl, sym, ap, ◌∙◌}
use mathlib.Core.List.{List, ◌++◌}
use Prim.Native.Nat.{ℕ, ◌≤◌}
use native.Mathlib.Omega.{arith}
use lib.IntN.{ℤ, pos, negsuc, nat_abs}
use lib.ListN.{length, length-append}
use lib.Signed.{◌≤ℤ◌, pos-nat_abs, yes_non_neg}
use Rattle.ints.specs.Range.{In}
use Rattle.ints.proofs.Parts.{ints, nat_abs-parts, one_up}
use Rattle.text.specs.Room.{fits, room_after}
use Rattle.text.specs.Decimal.{signed}
use Rattle.text.proofs.Lists.{by_test}
use Rattle.text.proofs.Signed.{length_signed_le}
use Rattle.calendar.specs.Civil.{year_count}
use Rattle.calendar.specs.Dates.{month_number}
use Rattle.time.specs.Answers.{is_written}
use Rattle.time.specs.declared.Refusal.TheVariants.{Range}
use Rattle.strip.specs.Strip.{week_at, month_strip, month_in, strip_at, strip_of}
use Rattle.strip.specs.declared.Answered.{Answered}
use Rattle.strip.proofs.Filling.{length-along}
use Rattle.strip.proofs.Answers.{strip_of_In, strip_iff}
use Rattle.monthstrip.specs.Page.{rows, day_names, title, page_of, if_fits, written_for, page_bytes, page_written}
use Rattle.monthstrip.proofs.Pages.{length-rows-le, length-title-le}
use Rattle.time.specs.declared.Refusal.{Refusal}

is_written-if_fits : (page room : List ℕ) → is_written (if_fits page room) ≡ fits page room
is_written-if_fits page room = by_test (fits page room) (λ e. rw e) (λ e. rw e)

-- by whether there is such a month
nothing_at : (f : Option ℕ) (page room : List ℕ) → ((strip_at f).number ≡ 0 → ⊥) → Err Range ≡ written_for f page room
nothing_at (Some m) page room h = absurd (h refl)
nothing_at None page room h = refl

page_at : (f : Option ℕ) (page room : List ℕ) → (strip_at f).number ≡ 0 → if_fits page room ≡ written_for f page room
page_at (Some m) page room h = refl
page_at None page room h = absurd (omega (arith, h))

module _ (y m : ℤ) (room : List ℕ) where
  pub written_nothing : ((strip_of y m).number ≡ 0 → ⊥)
      → (Err Range ≡ page_written y m room) × (room ≡ room_after (is_written (page_written y m room)) (page_bytes y m) room)
  unfolding strip_of page_written
  written_nothing h =
      let e : Err Range ≡ page_written y m room = nothing_at (month_in y m) (page_bytes y m) room h in
      (e, ap (λ (a : Result ℕ Refusal). room_after (is_written a) (page_bytes y m) room) e)

  pub written_page : (p r : List ℕ) (a : Result ℕ Refusal) → (strip_of y m).number ≡ 0 → p ≡ page_bytes y m → a ≡ if_fits p room → r ≡ room_after (fits p room) p room
      → (a ≡ page_written y m room) × (r ≡ room_after (is_written (page_written y m room)) (page_bytes y m) room)
  unfolding strip_of page_written
  written_page p r a h e f g =
      let w : if_fits (page_bytes y m) room ≡ page_written y m room = page_at (month_in y m) (page_bytes y m) room h in (
        f ∙ ap (λ (q : List ℕ). if_fits q room) e ∙ w,
        g ∙ ap (λ (q : List ℕ). room_after (fits q room) q room) e
            ∙ ap (λ t. room_after t (page_bytes y m) room) (sym (is_written-if_fits (page_bytes y m) room) ∙ ap is_written w),
      )

length-weeks : (m : ℕ) → length (month_strip m).weeks ≡ 6
unfolding month_strip
length-weeks m = length-along (week_at m) 6 0

nat_abs-le_of_In : (y : ℤ) → In (negsuc 9998) (pos 9999) y → nat_abs y ≤ 9999
nat_abs-le_of_In y p = omega (ints, nat_abs-parts y, one_up y, p.low, p.high)

-- such a month is one from 1 to 12
pub nat_abs-pos : (y m : ℤ) → (strip_of y m).number ≡ 0 → 1 ≤ nat_abs m
nat_abs-pos y m h =
    let low = ((strip_iff y m).0 h).1.low in
    let up : pos 0 ≤ℤ m = omega (ints, low) in
    omega (ints, pos-nat_abs m (yes_non_neg up), low)

-- the longest page has six rows; so a buffer of 199 bytes has room for every page
pub length-page_bytes-le : (y m : ℤ) → (strip_of y m).number ≡ 0 → length (page_bytes y m) ≤ 199
unfolding page_bytes page_of
length-page_bytes-le y m h =
    let p = (strip_iff y m).0 h in
    let six : length (strip_of y m).strip.weeks ≡ 6 = ap (λ (a : Answered). length a.strip.weeks) (strip_of_In y m p.0 p.1) ∙ length-weeks (month_number (year_count y) (nat_abs m)) in
    let near : nat_abs y ≤ 9999 = nat_abs-le_of_In y p.0 in
    let digits : length (signed y) ≤ 20 = length_signed_le y (omega arith) in
    let above = title y (nat_abs m) in
    let below = rows (strip_of y m).strip.weeks (strip_of y m).strip.days in
    omega (arith, length-append (above ++ day_names) below, length-append above day_names, length-title-le y (nat_abs m) digits, length-rows-le (strip_of y m).strip.weeks (strip_of y m).strip.days, six)
