-- RULES 14.1, 14.4 to 14.7: a month's strip, what is answered for a year and a month, and the bytes of a strip. Months and days are
-- counted as in Calendar: month 0 is January, and day 0 is 1 January, of year -10000; January 1970 is month 143,640, and 1 January
-- 1970 is day 4,371,953.
-- Assumes nothing.
use Rattle.std.specs.Prelude.{cond, ◌&&◌, List, [], ◌∷◌, ◌++◌, ℕ, zero, suc, ◌+◌, ◌*◌, ◌-◌, eqb, ltb, leb, ℤ, pos, nat_abs, length, replicate, Err, None, Ok, Option, Result, Some}
use Rattle.ints.specs.Range.{is_in}
use Rattle.calendar.specs.Calendar.{first_day, month_length, month_of}
use Rattle.calendar.specs.Civil.{year_count, is_year}
use Rattle.calendar.specs.Dates.{month_number}
use Rattle.time.specs.Answers.{number_of}
use Rattle.time.specs.declared.Refusal.TheVariants.{Range, Room}
use Rattle.strip.specs.Weeks.{weekday, monday, week}
use Rattle.strip.specs.declared.Strip.{Strip}
use Rattle.strip.specs.declared.Answered.{Answered}
use Rattle.time.specs.declared.Refusal.{Refusal}

-- f i, f (i + 1) and so on, n of them
unfoldable pub along : (ℕ → ℕ) → ℕ → ℕ → List ℕ
along f zero i = []
along f (suc n) i = f i ∷ along f n (suc i)

-- the day at place i of month m's strip: places run along the rows, seven to a row, from the Monday of the week of the month's first day
unfoldable pub place_day : ℕ → ℕ → ℕ
place_day m i = monday (first_day m) + i

-- what is shown there: its day of the month, from 1, or 0 if it is a day of another month
unfoldable pub shown_at : ℕ → ℕ → ℕ
shown_at m i =
    let d : ℕ = place_day m i in
    cond (eqb (month_of d) m) (d - first_day m + 1) 0

-- the week of row r, which is that of its Thursday, or 0 if the row begins after the month's last day
unfoldable pub week_at : ℕ → ℕ → ℕ
week_at m r = cond (ltb (place_day m (r * 7)) (first_day (suc m))) (week (place_day m (r * 7 + 3))) 0

-- six rows
abbrev pub weeks_of : ℕ → List ℕ
weeks_of m = along (week_at m) 6 0

abbrev pub days_of : ℕ → List ℕ
days_of m = along (shown_at m) 42 0

-- the strip of month m
unfoldable pub month_strip : ℕ → Strip
month_strip m =
    record {
      length = month_length m;
      weekday = weekday (first_day m);
      weeks = weeks_of m;
      days = days_of m;
    }

-- all 0
unfoldable pub no_strip : Strip
no_strip = record { length = 0; weekday = 0; weeks = replicate 6 0; days = replicate 42 0 }

-- the month that a year from -9999 to 9999 and a month from 1 to 12 name
unfoldable pub month_in : ℤ → ℤ → Option ℕ
month_in y m = cond (is_year y && is_in (pos 1) (pos 12) m) (Some (month_number (year_count y) (nat_abs m))) None

-- its strip; any other year and month are refused by 6, with all 0 in the strip
abbrev pub strip_at : Option ℕ → Answered
strip_at (Some m) = record { number = 0; strip = month_strip m }
strip_at None = record { number = number_of Range; strip = no_strip }

unfoldable pub strip_of : ℤ → ℤ → Answered
strip_of y m = strip_at (month_in y m)

-- a strip as 50 bytes: length, weekday, six weeks, forty-two days
unfoldable pub strip_bytes : Strip → List ℕ
strip_bytes s = s.length ∷ s.weekday ∷ s.weeks ++ s.days

-- what writing them answers: 6, then 8 for a room of fewer than 50 bytes
abbrev pub written_for : Option ℕ → List ℕ → Result ℕ Refusal
written_for (Some m) room = cond (leb 50 (length room)) (Ok 50) (Err Room)
written_for None room = Err Range

unfoldable pub strip_written : ℤ → ℤ → List ℕ → Result ℕ Refusal
strip_written y m room = written_for (month_in y m) room
