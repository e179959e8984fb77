-- RULES 3.4: the date of a day, the day of a date, and which dates there are. Counts are those of Calendar: day 0
-- is 1 January of year -10000; 1 January 1970 is day 4,371,953. There are dates to the end of year 9999, year 19999 by count.
-- Assumes nothing.
use Rattle.std.specs.Prelude.{Bool, cond, ◌&&◌, ℕ, ◌+◌, ◌*◌, ◌-◌, ◌<◌, leb, ltb, None, Option, Some}
use Rattle.calendar.specs.Calendar.{first_day, month_length, month_of}
use Rattle.calendar.specs.declared.Date.{Date}

-- the date of day d: its month, and the day of it from 0
unfoldable pub date_of : ℕ → Date
date_of d = record { month = month_of d; day = d - first_day (month_of d) }

-- month m, from 1, of year y
abbrev pub month_number : ℕ → ℕ → ℕ
month_number y m = y * 12 + (m - 1)

-- year y has a month m, from 1, with a day k, from 1
unfoldable pub exists : ℕ → ℕ → ℕ → Bool
exists y m k = ltb y 20000 && (leb 1 m && (leb m 12 && (leb 1 k && leb k (month_length (month_number y m)))))

-- the day of year y, month m and day k, if there is such a date
unfoldable pub day_number : ℕ → ℕ → ℕ → Option ℕ
day_number y m k = cond (exists y m k) (Some (first_day (month_number y m) + (k - 1))) None

-- a day or a time that was found is below n
abbrev pub Below : ℕ → Option ℕ → Type 0
Below n (Some x) = x < n
Below n None = Unit {0}
