-- RULES 3.1, 3.2: leap years, the lengths of months, the first day of a month, and the month of a day. Years are counted
-- from year -10000, which divides by 400, so that the leap rule is as written; months from its January, twelve to a year; days
-- from its 1 January. Day 0 is 1 January of year -10000; 1 January 1970 is day 4,371,953, and falls in month 143,640. Signed
-- years are in Civil.
-- Assumes nothing.
use Rattle.std.specs.Prelude.{◌≡◌, Bool, cond, not, ◌&&◌, ◌||◌, List, [], ◌∷◌, ℕ, zero, suc, ◌+◌, ◌*◌, ◌-◌, ◌/◌, ◌%◌, ◌<◌, eqb, ltb, get_or, take}

-- leap years divide by 4, not by 100 unless by 400
unfoldable pub leap : ℕ → Bool
leap y = eqb (y % 4) 0 && (not (eqb (y % 100) 0) || eqb (y % 400) 0)

-- the days of each month of a year, January first
unfoldable pub lengths : Bool → List ℕ
lengths l = 31 ∷ cond l 29 28 ∷ 31 ∷ 30 ∷ 31 ∷ 30 ∷ 31 ∷ 31 ∷ 30 ∷ 31 ∷ 30 ∷ 31 ∷ []

-- the days of month m
unfoldable pub month_length : ℕ → ℕ
month_length m = get_or (lengths (leap (m / 12))) (m % 12) 0

-- the days of year y
unfoldable pub year_length : ℕ → ℕ
year_length y = cond (leap y) 366 365

-- the first day of year y: that of the year before, and its days
unfoldable pub year_start : ℕ → ℕ
year_start zero = 0
year_start (suc y) = year_start y + year_length y

unfoldable pub total : List ℕ → ℕ
total [] = 0
total (x ∷ xs) = x + total xs

-- the first day of month m: that of its year, and the days of the year's months before it
unfoldable pub first_day : ℕ → ℕ
first_day m = year_start (m / 12) + total (take (m % 12) (lengths (leap (m / 12))))

-- day d is day k, from 0, of month m
pub record IsDate (d m k : ℕ) : Type 0 where
  pub sum : first_day m + k ≡ d
  pub within : k < month_length m

-- Spans of days that follow one another, span i of `size i` days. Day d, counted from the first day of span i, falls in span i if
-- it is within its days, and otherwise where the days left fall, counted from the next span; no more than n spans further on.
unfoldable pub span_of : (ℕ → ℕ) → ℕ → ℕ → ℕ → ℕ
span_of size zero i d = i
span_of size (suc n) i d = cond (ltb d (size i)) i (span_of size n (suc i) (d - size i))

-- the year of day d: four hundred years have 146,097 days
unfoldable pub year_of : ℕ → ℕ
year_of d = span_of year_length 399 (d / 146097 * 400) (d % 146097)

-- the month of day d, among the twelve of its year
unfoldable pub month_of : ℕ → ℕ
month_of d =
    let y : ℕ = year_of d in
    span_of month_length 11 (y * 12) (d - year_start y)
