-- RULES 12.4: the local date and clock of a time, the date some months earlier, and the instant of a date. Months are counted
-- from January of year -10000, as in the calendar, and months before it are numbers below 0.
-- Assumes nothing.
use Rattle.std.specs.Prelude.{ℕ, ◌+◌, ◌-◌, ◌/◌, ◌%◌, ◌≡◌, true, cond, List, [], ◌∷◌, leb, ℤ, pos, negsuc, ◌+ℤ◌, ◌-ℤ◌, ◌*ℤ◌}
use Rattle.text.specs.Bytes.{ascii}
use Rattle.calendar.specs.Calendar.{month_length}
use Rattle.calendar.specs.Civil.{Civil, civil_date}
use Rattle.time.specs.declared.Time.{Time}
use Rattle.relative.specs.Pairs.{pairs_of}
use Rattle.relative.specs.Steps.{local_seconds, month_start}
use Rattle.relative.specs.declared.pair.Unit.{Unit}

-- the local date of a time in range, and the second of its day
abbrev pub date_at : Time → Civil
date_at x = civil_date (pos (local_seconds x / 86400) -ℤ pos 4371953)

abbrev pub clock_at : Time → ℕ
clock_at x = local_seconds x % 86400

-- the month of a date, and day k of month m
abbrev pub month_at : Civil → ℤ
month_at c = (c.year +ℤ pos 10000) *ℤ pos 12 +ℤ pos (c.month - 1)

abbrev pub day_of_month : ℤ → ℕ → Civil
day_of_month (pos m) k = record { year = pos (m / 12) -ℤ pos 10000; month = m % 12 + 1; day = k }
day_of_month (negsuc m) k = record { year = negsuc (m / 12) -ℤ pos 10000; month = 12 - m % 12; day = k }

-- how many days month m has; the calendar repeats every 4,800 months
unfoldable pub month_days : ℤ → ℕ
month_days (pos m) = month_length m
month_days (negsuc m) = month_length (4799 - m % 4800)

-- the date n months earlier: the same day of the month, or, if that month is too short, the surplus days counted on from the next
-- month's first
unfoldable pub earlier_date : Civil → ℕ → Civil
earlier_date c n =
    let m : ℤ = month_at c -ℤ pos n in
    let k : ℕ = month_days m in
    cond (leb c.day k) (day_of_month m c.day) (day_of_month (m +ℤ pos 1) (c.day - k))

-- the instant of a date, at a second of its day and an offset. From year -10000 on its day is the calendar's `civil_day`
-- (`seconds_at-civil_day`), and a time in range is the instant of its own date and clock (`time_of_its_date`)
unfoldable pub seconds_at : Civil → ℕ → ℤ → ℤ
seconds_at c clock o = (month_start (month_at c) +ℤ pos (c.day - 1) -ℤ pos 4371953) *ℤ pos 86400 +ℤ pos clock -ℤ o

-- a text of one pair
pub record OnePair (s : List ℕ) (n : ℕ) (u : Unit) : Type 0 where
  pub plain : ascii s ≡ true
  pub pair : pairs_of s ≡ record { count = n; unit = u } ∷ []
