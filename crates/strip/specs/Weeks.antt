-- RULES 14.2, 14.3: weekdays and weeks as ISO 8601 has them. Days and years are counted as in Calendar: day 0 is 1 January of year
-- -10000, a Saturday; 1 January 1970 is day 4,371,953, a Thursday. Weekdays are counted from Monday, 1, to Sunday, 7. Nothing is meant
-- of the week of day 0, which begins before it.
-- Assumes nothing.
use Rattle.std.specs.Prelude.{cond, ℕ, zero, suc, ◌+◌, ◌-◌, ◌/◌, ◌%◌, eqb}
use Rattle.calendar.specs.Calendar.{year_start, year_of}

-- the weekday of day d: weekdays go round by seven
unfoldable pub weekday : ℕ → ℕ
weekday d = (d + 5) % 7 + 1

-- the Monday and the Thursday of the week that day d is in
unfoldable pub monday : ℕ → ℕ
monday d = d - (weekday d - 1)

unfoldable pub thursday : ℕ → ℕ
thursday d = monday d + 3

-- the first Thursday from day d on, looked for among n days and the one after them
unfoldable pub thursday_from : ℕ → ℕ → ℕ
thursday_from zero d = d
thursday_from (suc n) d = cond (eqb (weekday d) 4) d (thursday_from n (suc d))

-- the first Thursday of year y, which is one of its first seven days
unfoldable pub first_thursday : ℕ → ℕ
first_thursday y = thursday_from 6 (year_start y)

-- a day belongs to the year of its week's Thursday
unfoldable pub week_year : ℕ → ℕ
week_year d = year_of (thursday d)

-- and to the week of that year in which its Thursday is: week 1 has the year's first Thursday, and weeks are counted on from there
unfoldable pub week : ℕ → ℕ
week d = (thursday d - first_thursday (week_year d)) / 7 + 1
