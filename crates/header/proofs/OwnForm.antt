-- A header of the commit's own form, `<decimal seconds> <sign>HHMM` with minutes below 60. It is read, and what was read is written as the
-- same bytes (`own_form_again`), in a room too (`own_form_again_in_room`). The raw reader reads the same time from it, within limits that
-- allow its hours and minutes (`own_form_raw_again`). The header writer writes such headers and nothing else (`only_own_form_written`).
-- Assumes nothing.
use Rattle.std.specs.Prelude.{Ok}
use mathlib.Core.Path.{◌≡◌, refl, sym, ap, ◌∙◌}
use mathlib.Core.Bool.{Bool, true, false, cond, ◌&&◌, or-false}
use mathlib.Core.List.{List, [], ◌∷◌}
use Prim.Native.Char.{code}
use Prim.Native.Nat.{ℕ, zero, suc, ◌+◌, ◌*◌, ◌/◌, ◌%◌, ◌<◌}
use native.Mathlib.Omega.{arith}
use borrow.Author.Tests.{eqb-true}
use lib.Dec.{eqb}
use lib.IntN.{ℤ, pos, neg_ℤ, nat_abs}
use lib.ListN.{take}
use Rattle.ints.specs.Equal.{eq_z}
use Rattle.text.specs.Bytes.{is_sign}
use Rattle.text.specs.Decimal.{signed_before, two_before}
use Rattle.text.specs.Room.{room_after}
use Rattle.text.proofs.Lists.{by_test}
use Rattle.time.specs.Answers.{time_marked, is_written}
use Rattle.time.specs.Header.{header_bytes, header_sign, header_written, sign_byte, whole_minutes, space}
use Rattle.time.specs.declared.Time.{Time}
use Rattle.time.proofs.Theorems.{header_in_room}
use Rattle.header.specs.Offset.{read_time}
use Rattle.header.specs.Header.{header_of}
use Rattle.header.specs.Raw.{Limits, raw_of}
use Rattle.header.specs.Theorems.{Seconds64, OwnForm}
use Rattle.header.proofs.ReadBack.{fields_are, offset_of-fields_are, header_of-word, raw_of-word, header_sign-sign}

-- ---- a size behind a sign
abbrev sign_of : Bool → ℕ
sign_of minus = cond minus (code "-") (code "+")

abbrev pub behind : Bool → ℕ → ℤ
behind minus n = cond minus (neg_ℤ (pos n)) (pos n)

is_sign-sign_of : (minus : Bool) → is_sign (sign_of minus) ≡ true
unfolding is_sign
is_sign-sign_of true = refl
is_sign-sign_of false = refl

eqb-sign_of : (minus : Bool) → eqb (sign_of minus) (code "-") ≡ minus
eqb-sign_of true = refl
eqb-sign_of false = refl

-- its time has that sign again, and that size
abbrev pub time_behind : ℤ → Bool → ℕ → Time
time_behind z minus n = time_marked z (behind minus n) (minus && eq_z (behind minus n) (pos 0))

header_sign-behind : (z : ℤ) (minus : Bool) (n : ℕ) → header_sign (time_behind z minus n) ≡ sign_of minus
unfolding header_sign sign_byte
header_sign-behind z true zero = refl
header_sign-behind z true (suc n) = refl
header_sign-behind z false n = refl

nat_abs-behind : (minus : Bool) (n : ℕ) → nat_abs (behind minus n) ≡ n
nat_abs-behind true zero = refl
nat_abs-behind true (suc n) = refl
nat_abs-behind false n = refl

-- ---- read, and written again
module _ (s : List ℕ) (o : OwnForm s) where
  abbrev pub size : ℕ
  size = o.hours * 3600 + o.minutes * 60

  abbrev pub time : Time
  time = time_behind o.seconds o.minus size

  read_time_is : read_time o.seconds (fields_are (eqb (sign_of o.minus) 45) o.hours o.minutes 0) ≡ time
  read_time_is = rw (eqb-sign_of o.minus, offset_of-fields_are o.minus o.hours o.minutes 0 size (omega arith))

  pub own_form_read : header_of s ≡ Ok time
  own_form_read =
      ap header_of o.bytes_are
      ∙ header_of-word (sign_of o.minus) o.hours o.minutes (is_sign-sign_of o.minus) o.hours_lt (omega (arith, o.minutes_lt)) o.seconds o.seconds_in_range
      ∙ ap Ok read_time_is

  own_form_written : header_bytes time ≡ s
  unfolding header_bytes whole_minutes
  own_form_written =
      let n : nat_abs (behind o.minus size) ≡ size = nat_abs-behind o.minus size in
      let h : nat_abs (behind o.minus size) / 60 / 60 ≡ o.hours = omega (arith, n, o.minutes_lt) in
      let m : nat_abs (behind o.minus size) / 60 % 60 ≡ o.minutes = omega (arith, n, o.minutes_lt) in
      (λ i. signed_before o.seconds (space ∷ header_sign-behind o.seconds o.minus size i ∷ two_before (h i) (two_before (m i) []))) ∙ sym o.bytes_are

  pub own_form_again : (t : Time) → header_of s ≡ Ok t → (nat_abs t.offset < 360000) × (header_bytes t ≡ s)
  own_form_again t e =
      let k : Ok time ≡ Ok t = sym own_form_read ∙ e in
      let same : time ≡ t = cc in
      let n = nat_abs-behind o.minus size in
      (omega (arith, ap (λ (u : Time). nat_abs u.offset) same, n, o.hours_lt, o.minutes_lt), ap header_bytes (sym same) ∙ own_form_written)

  -- a call that writes it leaves those bytes at the front of the room
  pub own_form_again_in_room : (t : Time) (room : List ℕ) (n : ℕ) → header_of s ≡ Ok t → header_written t room ≡ Ok n
      → take n (room_after (is_written (header_written t room)) (header_bytes t) room) ≡ s
  own_form_again_in_room t room n e w = header_in_room t room n w ∙ (own_form_again t e).1

  -- the raw reader reads the same time, within limits that allow the hours and the minutes
  pub own_form_raw_again : (l : Limits) → l.hours (pos o.hours) ≡ true → l.minutes (pos o.minutes) ≡ true → raw_of l s ≡ header_of s
  own_form_raw_again l hours minutes =
      ap (raw_of l) o.bytes_are
      ∙ raw_of-word (sign_of o.minus) o.hours o.minutes (is_sign-sign_of o.minus) o.hours_lt (omega (arith, o.minutes_lt)) l o.seconds o.seconds_in_range hours minutes
      ∙ ap Ok read_time_is
      ∙ sym own_form_read

-- ---- what the writer writes
sign_of_of_is_sign : (b : ℕ) → is_sign b ≡ true → b ≡ sign_of (eqb b (code "-"))
unfolding is_sign
sign_of_of_is_sign b e =
    by_test (eqb b (code "-")) (λ k. rw k (eqb-true b (code "-") k))
    (λ k. rw k (eqb-true b (code "+") (rw (k, or-false) at e)))

pub only_own_form_written : (t : Time) → Seconds64 t.seconds → nat_abs t.offset < 360000 → OwnForm (header_bytes t)
unfolding header_bytes whole_minutes
only_own_form_written t r h =
    let sign = sign_of_of_is_sign (header_sign t) (header_sign-sign t) in
    record {
      seconds = t.seconds;
      seconds_in_range = r;
      minus = eqb (header_sign t) (code "-");
      hours = whole_minutes t.offset / 60;
      hours_lt = omega arith;
      minutes = whole_minutes t.offset % 60;
      minutes_lt = omega arith;
      bytes_are = ap (λ (b : ℕ). signed_before t.seconds (space ∷ b ∷ two_before (whole_minutes t.offset / 60) (two_before (whole_minutes t.offset % 60) []))) sign;
    }
