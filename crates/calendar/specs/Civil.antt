-- RULES 3.4: dates with a signed year, a month from 1 and a day from 1, over the years -9999 to 9999, and signed
-- days: day 0 is 1 January 1970. They are the counts of Calendar, moved: there day 0 is 1 January of year -10000, and
-- 1 January 1970 is day 4,371,953. Nothing is meant of years before -10000.
-- Assumes nothing.
use Rattle.std.specs.Prelude.{ℕ, ◌+◌, ◌-◌, ◌/◌, ◌%◌, ◌≤◌, Bool, ℤ, pos, negsuc, nat_abs, ◌+ℤ◌, ◌-ℤ◌}
use Rattle.ints.specs.Range.{In, is_in}
use Rattle.calendar.specs.Calendar.{first_day, month_length, month_of}
use Rattle.calendar.specs.Dates.{month_number}

-- a date as it is written: 31 December 9999 is 9999, 12, 31
pub record Civil : Type 0 where
  pub year : ℤ
  pub month : ℕ
  pub day : ℕ

-- the years that there are
abbrev pub is_year : ℤ → Bool
is_year y = is_in (negsuc 9998) (pos 9999) y

-- year y, counted from year -10000
abbrev pub year_count : ℤ → ℕ
year_count y = nat_abs (y +ℤ pos 10000)

-- the month of a date, counted from January of year -10000
abbrev pub month_count : Civil → ℕ
month_count c = month_number (year_count c.year) c.month

-- a date of the years -9999 to 9999
pub record IsCivil (c : Civil) : Type 0 where
  pub years : In (negsuc 9998) (pos 9999) c.year
  pub month_low : 1 ≤ c.month
  pub month_high : c.month ≤ 12
  pub day_low : 1 ≤ c.day
  pub day_high : c.day ≤ month_length (month_count c)

-- the day of a date
unfoldable pub civil_day : Civil → ℤ
civil_day c = pos (first_day (month_count c) + (c.day - 1)) -ℤ pos 4371953

-- the date of a day
unfoldable pub civil_date : ℤ → Civil
civil_date z =
    let d : ℕ = nat_abs (z +ℤ pos 4371953) in
    let m : ℕ = month_of d in
    record { year = pos (m / 12) -ℤ pos 10000; month = m % 12 + 1; day = d - first_day m + 1 }
