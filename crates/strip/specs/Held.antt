-- What only private contracts of `strip` cite. HasStrip: a month that was found is one of the years -9999 to 9999. number_from: what is
-- shown at a place, by the days before the month's first in its week, and by the month's length. week_from: the week of a row, by the
-- Monday of the first row, and by the first day of the next month.
-- Assumes nothing.
use Rattle.std.specs.Prelude.{cond, ◌&&◌, ℕ, ◌+◌, ◌*◌, ◌-◌, ◌≤◌, ◌<◌, leb, ltb, None, Option, Some}
use Rattle.strip.specs.Weeks.{week}

abbrev pub HasStrip : Option ℕ → Type 0
HasStrip (Some m) = (12 ≤ m) × (m < 240000)
HasStrip None = Unit {0}

unfoldable pub number_from : ℕ → ℕ → ℕ → ℕ
number_from before length i = cond (leb before i && ltb i (before + length)) (i - before + 1) 0

unfoldable pub week_from : ℕ → ℕ → ℕ → ℕ
week_from start end r = cond (ltb (start + r * 7) end) (week (start + r * 7 + 3)) 0
