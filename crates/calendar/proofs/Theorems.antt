-- What RULES 3 promises of the calendar, over the definitions of specs/; the contracts carry it to the code. In order: four
-- hundred years have 146,097 days; the leap rule with a signed year; 1 January 1970 is day 0; date to
-- day and day to date undo each other over the years -9999 to 9999; a day has exactly one date. Last, that the counts which the
-- code answers with are those of the signed definitions.
-- Assumes nothing.
use Rattle.std.specs.Prelude.{Some}
use mathlib.Core.Path.{◌≡◌, ◌∙◌, refl, sym, ap}
use Prim.Native.Nat.{ℕ, zero, suc, ◌+◌, ◌-◌, ◌/◌, ◌%◌}
use native.Mathlib.Omega.{arith}
use lib.Dec.{eqb, eqb-suc-zero}
use lib.IntN.{ℤ, pos, negsuc, nat_abs, ◌+ℤ◌, ◌-ℤ◌}
use lib.Signed.{◌≤ℤ◌, pos-nat_abs, yes_non_neg}
use Rattle.ints.specs.Range.{In}
use Rattle.ints.proofs.Parts.{ints, add_parts}
use Rattle.calendar.specs.Calendar.{leap, lengths, year_length, year_start, total, first_day, IsDate, month_of}
use Rattle.calendar.specs.Dates.{date_of, day_number}
use Rattle.calendar.specs.Civil.{Civil, year_count, month_count, IsCivil, civil_day, civil_date}
use Rattle.calendar.proofs.Cycle.{first_day-add-4800}
use Rattle.calendar.proofs.Dates.{IsDate-month_unique, IsDate-day_unique, month_of_of_IsDate}
use Rattle.ints.proofs.Parts.{nat_abs-add-sub, nat_abs-sub-add}
use Rattle.calendar.proofs.Civil.{IsDate_of_IsCivil, exists_of_IsCivil, civil_date-sub, civil_day-civil_at, IsCivil-civil_at}

pub cycle_has_146097_days : (m : ℕ) → first_day (m + 4800) ≡ first_day m + 146097
cycle_has_146097_days = first_day-add-4800

-- ---- signed years

eqb-zero_iff : (a b : ℕ) → (a ≡ 0 → b ≡ 0) → (b ≡ 0 → a ≡ 0) → eqb a 0 ≡ eqb b 0
eqb-zero_iff zero zero f g = refl
eqb-zero_iff zero (suc b) f g = absurd (omega (arith, f refl))
eqb-zero_iff (suc a) zero f g = absurd (omega (arith, g refl))
eqb-zero_iff (suc a) (suc b) f g = eqb-suc-zero a ∙ sym (eqb-suc-zero b)

-- counting years from -10000 leaves the leap rule as it is
pub leap_of_signed_year : (y : ℤ) → negsuc 9999 ≤ℤ y → leap (year_count y) ≡ leap (nat_abs y)
unfolding leap
leap_of_signed_year (pos n) h =
    let a : (n + 10000) % 4 ≡ n % 4 = omega arith in
    let b : (n + 10000) % 100 ≡ n % 100 = omega arith in
    let c : (n + 10000) % 400 ≡ n % 400 = omega arith in
    rw (a, b, c)
leap_of_signed_year (negsuc n) h =
    let up : pos 0 ≤ℤ (negsuc n +ℤ pos 10000) = omega (ints, add_parts (negsuc n) (pos 10000)) in
    let e : pos (year_count (negsuc n)) ≡ negsuc n +ℤ pos 10000 = pos-nat_abs (negsuc n +ℤ pos 10000) (yes_non_neg up) in
    let s : year_count (negsuc n) + suc n ≡ 10000 = omega (ints, e, add_parts (negsuc n) (pos 10000)) in
    rw (
      eqb-zero_iff (year_count (negsuc n) % 4) (suc n % 4) (λ z. omega arith) (λ z. omega arith),
      eqb-zero_iff (year_count (negsuc n) % 100) (suc n % 100) (λ z. omega arith) (λ z. omega arith),
      eqb-zero_iff (year_count (negsuc n) % 400) (suc n % 400) (λ z. omega arith) (λ z. omega arith),
    )

pub epoch_is_day_0 : civil_day (record { year = pos 1970; month = 1; day = 1 }) ≡ pos 0
unfolding civil_day first_day year_start year_length total lengths leap
epoch_is_day_0 = refl

-- date to day and back
pub date_day_date : (c : Civil) → IsCivil c → civil_date (civil_day c) ≡ c
unfolding civil_day
date_day_date c p =
    let d = first_day (month_count c) + (c.day - 1) in
    let m : month_of d ≡ month_count c = month_of_of_IsDate (IsDate_of_IsCivil p) in
    let up : pos 0 ≤ℤ (c.year +ℤ pos 10000) = omega (ints, p.years.low, add_parts c.year (pos 10000)) in
    let q : month_of d / 12 ≡ year_count c.year = omega arith in
    let y : pos (month_of d / 12) -ℤ pos 10000 ≡ c.year = ap (λ (n : ℕ). pos n -ℤ pos 10000) q ∙ nat_abs-add-sub c.year 10000 up in
    let n : month_of d % 12 + 1 ≡ c.month = omega arith in
    let k : d - first_day (month_of d) + 1 ≡ c.day = omega (arith, ap first_day m) in
    civil_date-sub d ∙ (λ i. record { year = y i; month = n i; day = k i })

-- day to date and back, from 1 January -9999 to 31 December 9999; and that date is one
module _ (z : ℤ) (h : In (negsuc 4371586) (pos 2932896) z) where
  up : pos 0 ≤ℤ (z +ℤ pos 4371953)
  up = omega (ints, h.low, add_parts z (pos 4371953))

  counted : pos (nat_abs (z +ℤ pos 4371953)) -ℤ pos 4371953 ≡ z
  counted = nat_abs-add-sub z 4371953 up

  pub day_date_day : civil_day (civil_date z) ≡ z
  unfolding civil_date
  day_date_day = civil_day-civil_at (nat_abs (z +ℤ pos 4371953)) ∙ counted

  pub IsCivil-civil_date : IsCivil (civil_date z)
  unfolding civil_date
  IsCivil-civil_date =
      let e : pos (nat_abs (z +ℤ pos 4371953)) ≡ z +ℤ pos 4371953 = pos-nat_abs (z +ℤ pos 4371953) (yes_non_neg up) in
      IsCivil-civil_at (nat_abs (z +ℤ pos 4371953)) (omega (ints, e, add_parts z (pos 4371953), h.low)) (omega (ints, e, add_parts z (pos 4371953), h.high))

-- a day has exactly one date
pub one-date : {d m k n j : ℕ} → IsDate d m k → IsDate d n j → (m ≡ n) × (k ≡ j)
one-date p q = (IsDate-month_unique p q, IsDate-day_unique p q)

-- ---- the code's counts

-- `day_number` answers a date's signed day, moved up by 4,371,953
pub day_number_signed : (c : Civil) → IsCivil c → day_number (year_count c.year) c.month c.day ≡ Some (nat_abs (civil_day c +ℤ pos 4371953))
unfolding day_number civil_day
day_number_signed c p = rw (exists_of_IsCivil p) (ap Some (sym (nat_abs-sub-add (first_day (month_count c) + (c.day - 1)) 4371953)))

-- `date_of` answers a signed day's date, given the day moved up by as much: the year and the month from 1 as one count of months
pub date_of_signed : (d : ℕ) → civil_date (pos d -ℤ pos 4371953) ≡ record { year = pos ((date_of d).month / 12) -ℤ pos 10000; month = (date_of d).month % 12 + 1; day = (date_of d).day + 1 }
unfolding date_of
date_of_signed = civil_date-sub
