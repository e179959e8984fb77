-- What is answered for a signed year and month (RULES 14.1, 14.6): a strip exactly for the years -9999 to 9999 and the months 1 to 12, and
-- otherwise 6 with all 0 (`strip_iff`, `strip_refused`); and each date of those years is shown by the strip of its month, once and under its
-- weekday (`date_in_strip`).
-- Assumes nothing.
use Rattle.std.specs.Prelude.{None}
use mathlib.Core.Path.{◌≡◌, sym, ap, ◌∙◌}
use mathlib.Core.Logic.{◌↔◌, ◌⊎◌, inl, inr, ⊎_elim}
use Prim.Native.Nat.{ℕ, ◌+◌, ◌-◌, ◌%◌, ◌≤◌, ◌<◌}
use native.Mathlib.Omega.{arith}
use lib.IntN.{ℤ, pos, negsuc, nat_abs, ◌+ℤ◌}
use Rattle.ints.specs.Range.{In, is_in}
use Rattle.ints.proofs.Parts.{ints, nat_abs-sub-add}
use Rattle.ints.proofs.Machine.{In_of_is_in}
use Rattle.text.proofs.Lists.{by_test}
use Rattle.calendar.specs.Calendar.{first_day}
use Rattle.calendar.specs.Civil.{Civil, IsCivil, month_count, year_count, is_year, civil_day}
use Rattle.calendar.specs.Dates.{month_number}
use Rattle.strip.specs.Weeks.{weekday}
use Rattle.strip.specs.declared.Answered.{Answered}
use Rattle.strip.specs.Strip.{shown_at, month_in, month_strip, no_strip, strip_at, strip_of}
use Rattle.strip.proofs.Months.{month_in_of_year, month_in_of_month, month_in_of_In, HasStrip_of_In}
use Rattle.strip.specs.Theorems.{place_of}
use Rattle.strip.proofs.Theorems.{day_shown, day_shown_once}

pub strip_of_In : (y m : ℤ) → In (negsuc 9998) (pos 9999) y → In (pos 1) (pos 12) m → strip_of y m ≡ record { number = 0; strip = month_strip (month_number (year_count y) (nat_abs m)) }
unfolding strip_of
strip_of_In y m p q = ap strip_at (month_in_of_In y m p q)

pub strip_of_None : (y m : ℤ) → month_in y m ≡ None → strip_of y m ≡ record { number = 6; strip = no_strip }
unfolding strip_of
strip_of_None y m e = ap strip_at e

-- one or the other
by_month : (y m : ℤ) → (In (negsuc 9998) (pos 9999) y × In (pos 1) (pos 12) m) ⊎ (month_in y m ≡ None)
by_month y m =
    by_test (is_year y)
    (λ a. by_test (is_in (pos 1) (pos 12) m) (λ b. inl (In_of_is_in (negsuc 9998) (pos 9999) y a, In_of_is_in (pos 1) (pos 12) m b)) (λ b. inr (month_in_of_month y m b)))
    (λ a. inr (month_in_of_year y m a))

-- the number is 0 exactly if there is such a month
pub strip_iff : (y m : ℤ) → ((strip_of y m).number ≡ 0) ↔ (In (negsuc 9998) (pos 9999) y × In (pos 1) (pos 12) m)
strip_iff y m =
    (λ e. ⊎_elim (λ p. p) (λ n. absurd (omega (arith, e, ap (λ (a : Answered). a.number) (strip_of_None y m n)))) (by_month y m), λ p. ap (λ (a : Answered). a.number) (strip_of_In y m p.0 p.1))

-- and otherwise 6, with all 0
pub strip_refused : (y m : ℤ) → ((strip_of y m).number ≡ 0 → ⊥) → strip_of y m ≡ record { number = 6; strip = no_strip }
strip_refused y m n = ⊎_elim (λ p. absurd (n ((strip_iff y m).1 p))) (strip_of_None y m) (by_month y m)

-- a date is shown by the strip of its month, at one place, under the weekday of its day
pub date_in_strip : (c : Civil) → IsCivil c → let m = month_count c in let i = place_of m c.day in
    (strip_of c.year (pos c.month) ≡ record { number = 0; strip = month_strip m })
    × (i < 42) × (shown_at m i ≡ c.day) × ((j : ℕ) → shown_at m j ≡ c.day → j ≡ i)
    × (i % 7 + 1 ≡ weekday (nat_abs (civil_day c +ℤ pos 4371953)))
unfolding civil_day
date_in_strip c p =
    let m = month_count c in
    let k = c.day in
    let q : In (pos 1) (pos 12) (pos c.month) = record { low = omega (ints, p.month_low); high = omega (ints, p.month_high) } in
    let h : 12 ≤ m = (HasStrip_of_In c.year (pos c.month) p.years q).0 in
    let shown = day_shown m k h p.day_low p.day_high in
    let once = day_shown_once m (place_of m k) k h p.day_low shown.1 in (
      strip_of_In c.year (pos c.month) p.years q,
      shown.0,
      shown.1,
      λ j e. (day_shown_once m j k h p.day_low e).0,
      once.1 ∙ ap weekday (sym (nat_abs-sub-add (first_day m + (k - 1)) 4371953)),
    )
