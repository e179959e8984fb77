-- RULES 7.9, in the counts of the calendar: a local time some months earlier. The day of the month and
-- the clock are kept, and surplus days run into the next month: 31 May goes to "31 April", which is 1 May. Times are seconds from
-- day 0: day 0 is 1 January of year -10000; 1 January 1970 is day 4,371,953, so that its midnight is second 377,736,739,200.
-- Assumes nothing.
use Rattle.std.specs.Prelude.{cond, ℕ, ◌+◌, ◌*◌, ◌-◌, ◌/◌, ◌%◌, leb, None, Option, Some}
use Rattle.calendar.specs.Calendar.{first_day, month_of}

-- local time t, n months earlier: as many days after the first of that month as t's day is after the first of its own
unfoldable pub months_back : ℕ → ℕ → ℕ
months_back t n =
    let d : ℕ = t / 86400 in
    let m : ℕ = month_of d in
    (first_day (m - n) + (d - first_day m)) * 86400 + t % 86400

-- the same, unless n leads back beyond the first month that is counted
unfoldable pub back_of : ℕ → ℕ → Option ℕ
back_of t n = cond (leb n (month_of (t / 86400))) (Some (months_back t n)) None
