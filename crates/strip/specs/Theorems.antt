-- What the theorems about strips speak of (docs/PROMISES.md): the weekday after another; the place of a day in its strip; the rows of a strip
-- that are full. No contract cites these.
-- Assumes nothing.
use Rattle.std.specs.Prelude.{cond, ℕ, suc, ◌+◌, ◌-◌, ◌/◌, eqb}
use Rattle.calendar.specs.Calendar.{first_day, month_length}
use Rattle.strip.specs.Weeks.{weekday}

-- the weekday after weekday k: Monday follows Sunday
abbrev pub following : ℕ → ℕ
following k = cond (eqb k 7) 1 (suc k)

-- where day k of month m is shown: the 1st in the first row, under its weekday, and the others on from there
abbrev pub place_of : ℕ → ℕ → ℕ
place_of m k = weekday (first_day m) - 1 + (k - 1)

-- the rows from the first on that have no day behind the month's last
abbrev pub full_rows : ℕ → ℕ
full_rows m = (weekday (first_day m) - 1 + month_length m) / 7
