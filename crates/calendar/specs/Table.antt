-- RULES 3.3: the table of 4,800 first days, 0, 31, 60, and last 146066. Entry k is the first day of month k,
-- counted from a January of a year that divides by 400: day 0 is 1 January of year -10000; 1 January 1970 is day 4,371,953:
-- 29 cycles of 146,097 days, and entry 4440, which is 135,140. A caller without a table passes the empty list:
-- first days beyond the end of the list are computed by the leap rule.
-- Assumes nothing.
use Rattle.std.specs.Prelude.{◌≡◌, List, ℕ, ◌<◌, length, get_or}
use Rattle.calendar.specs.Calendar.{first_day}

-- the numbers t are the month table, or an opening part of it: entry k is the first day of month k, as far as t goes
pub record IsMonths (t : List ℕ) : Type 0 where
  pub entry : (k : ℕ) → k < length t → get_or t k 0 ≡ first_day k
