-- Dates with a signed year, over the counts of Calendar: a date that is one has its month and day, and exists (`IsDate_of_IsCivil`,
-- `exists_of_IsCivil`); the date of a counted day, and the day of that date (`civil_date-sub`, `civil_day-civil_at`,
-- `IsCivil-civil_at`).
-- Assumes nothing.
use mathlib.Core.Path.{◌≡◌, refl, ap}
use mathlib.Core.Bool.{true}
use Prim.Native.Nat.{ℕ, ◌+◌, ◌-◌, ◌/◌, ◌%◌, ◌≤◌, ◌<◌}
use native.Mathlib.Omega.{arith}
use lib.IntN.{ℤ, pos, negsuc, ◌+ℤ◌, ◌-ℤ◌}
use lib.Signed.{◌≤ℤ◌, pos-nat_abs, yes_non_neg}
use borrow.Author.Tests.{lt-ltb, le-leb}
use Rattle.ints.proofs.Parts.{ints, add_parts, nat_abs-sub-add}
use Rattle.calendar.specs.Calendar.{year_start, year_length, leap, lengths, total, first_day, month_length, IsDate, month_of}
use Rattle.calendar.specs.Dates.{exists}
use Rattle.calendar.specs.Civil.{Civil, year_count, month_count, IsCivil, civil_day, civil_date}
use Rattle.calendar.proofs.Lengths.{first_day-suc}
use Rattle.calendar.proofs.Cycle.{le_of_first_day, lt_of_first_day_in_range}
use Rattle.calendar.proofs.Dates.{IsDate-month_of}

year_count-lt : (y : ℤ) → negsuc 9998 ≤ℤ y → y ≤ℤ pos 9999 → year_count y < 20000
year_count-lt y l h =
    let up : pos 0 ≤ℤ (y +ℤ pos 10000) = omega (ints, add_parts y (pos 10000)) in
    let e : pos (year_count y) ≡ y +ℤ pos 10000 = pos-nat_abs (y +ℤ pos 10000) (yes_non_neg up) in
    omega (ints, e, add_parts y (pos 10000))

-- ---- from a date

pub IsDate_of_IsCivil : {c : Civil} → IsCivil c → IsDate (first_day (month_count c) + (c.day - 1)) (month_count c) (c.day - 1)
IsDate_of_IsCivil p = record { sum = refl; within = omega arith }

pub exists_of_IsCivil : {c : Civil} → IsCivil c → exists (year_count c.year) c.month c.day ≡ true
unfolding exists
exists_of_IsCivil {c} p =
    simp (
      lt-ltb (year_count c.year) 20000 (year_count-lt c.year p.years.low p.years.high),
      le-leb 1 c.month p.month_low,
      le-leb c.month 12 p.month_high,
      le-leb 1 c.day p.day_low,
      le-leb c.day (month_length (month_count c)) p.day_high,
    )

-- ---- from a day, counted from year -10000

abbrev pub civil_at : ℕ → Civil
civil_at d =
    record {
      year = pos (month_of d / 12) -ℤ pos 10000;
      month = month_of d % 12 + 1;
      day = d - first_day (month_of d) + 1;
    }

pub civil_date-sub : (d : ℕ) → civil_date (pos d -ℤ pos 4371953) ≡ civil_at d
unfolding civil_date
civil_date-sub d = ap civil_at (nat_abs-sub-add d 4371953)

month_count-civil_at : (d : ℕ) → month_count (civil_at d) ≡ month_of d
month_count-civil_at d = omega (arith, nat_abs-sub-add (month_of d / 12) 10000)

pub civil_day-civil_at : (d : ℕ) → civil_day (civil_at d) ≡ pos d -ℤ pos 4371953
unfolding civil_day
civil_day-civil_at d =
    let e : first_day (month_count (civil_at d)) + (d - first_day (month_of d) + 1 - 1) ≡ d = omega (arith, ap first_day (month_count-civil_at d), (IsDate-month_of d).sum) in
    ap (λ (n : ℕ). pos n -ℤ pos 4371953) e

-- the first day of year -9999
pub first_day-12 : first_day 12 ≡ 366
unfolding first_day year_start year_length total lengths leap
first_day-12 = refl

pub IsCivil-civil_at : (d : ℕ) → 366 ≤ d → d < 7304850 → IsCivil (civil_at d)
IsCivil-civil_at d l h =
    let m = month_of d in
    let p = IsDate-month_of d in
    let low : 12 ≤ m = le_of_first_day 12 m d (omega (arith, first_day-12)) (omega (arith, first_day-suc m)) in
    let high : m < 240000 = lt_of_first_day_in_range m d (omega arith) h in
    record {
      years = record { low = omega (ints, add_parts (pos (m / 12)) (negsuc 9999)); high = omega (ints, add_parts (pos (m / 12)) (negsuc 9999)) };
      month_low = omega arith;
      month_high = omega arith;
      day_low = omega arith;
      day_high = omega (arith, ap month_length (month_count-civil_at d));
    }
