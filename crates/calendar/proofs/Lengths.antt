-- Years and months one after the other: a year is its twelve months (`first_day-year`), a month's days lead to the next month's
-- first (`first_day-suc`, `first_day-add-one`), and a month has 28 to 31 days (`month_length-ge`, `month_length-le`),
-- within one day of those that it has in any other year (`month_length-le_of_year`).
-- Assumes nothing.
use mathlib.Core.Path.{◌≡◌, refl, ap, ◌∙◌}
use mathlib.Core.Bool.{Bool, true, false, cond, ◌&&◌}
use mathlib.Core.List.{List, [], ◌∷◌}
use Prim.Native.Nat.{ℕ, zero, suc, ◌+◌, ◌*◌, ◌/◌, ◌%◌, ◌≤◌, ◌<◌}
use native.Mathlib.Nat.{not-suc-le-zero, le_of_suc-le-suc}
use native.Mathlib.Numerals.{add-one}
use native.Mathlib.Decide.{dec_lt}
use native.Mathlib.Omega.{arith}
use lib.Dec.{T, leb, leb→le}
use lib.ListN.{length, get_or, take}
use mir.Facts.{and_yes}
use Rattle.calendar.specs.Calendar.{leap, lengths, month_length, year_length, total, year_start, first_day}

total-take-suc : (xs : List ℕ) (k : ℕ) → total (take (suc k) xs) ≡ total (take k xs) + get_or xs k 0
unfolding total
total-take-suc [] zero = refl
total-take-suc [] (suc k) = refl
total-take-suc (x ∷ xs) zero = omega arith
total-take-suc (x ∷ xs) (suc k) = omega (arith, total-take-suc xs k)

-- the days of a year are those of its months
total_lengths : (y : ℕ) → total (take 11 (lengths (leap y))) + get_or (lengths (leap y)) 11 0 ≡ year_length y
unfolding year_length total lengths
total_lengths y = by_leap (leap y)
  where
    by_leap : (l : Bool) → total (take 11 (lengths l)) + get_or (lengths l) 11 0 ≡ cond l 366 365
    by_leap true = refl
    by_leap false = refl

pub year_start-suc : (y : ℕ) → year_start (suc y) ≡ year_start y + year_length y
unfolding year_start
year_start-suc y = refl

-- the first day of a year is that of its January
pub first_day-year : (y : ℕ) → first_day (y * 12) ≡ year_start y
unfolding first_day total
first_day-year y =
    let a : y * 12 / 12 ≡ y = omega arith in
    let b : y * 12 % 12 ≡ 0 = omega arith in
    rw (a, b) (omega arith)

-- a month's last day is followed by the next month's first
pub first_day-suc : (m : ℕ) → first_day (suc m) ≡ first_day m + month_length m
unfolding first_day month_length year_start total
first_day-suc m =
    elim (dec_lt (m % 12) 11) [
      | yes h ↦ let a : suc m / 12 ≡ m / 12 = omega arith in
          let b : suc m % 12 ≡ suc (m % 12) = omega arith in
          rw (a, b, total-take-suc) (omega arith)
      | no h ↦ let a : suc m / 12 ≡ suc (m / 12) = omega arith in
          let b : suc m % 12 ≡ 0 = omega arith in
          let c : m % 12 ≡ 11 = omega arith in
          rw (a, b, c) (omega (arith, total_lengths (m / 12)))
    ]

pub first_day-add-one : (m : ℕ) → first_day (m + 1) ≡ first_day m + month_length m
first_day-add-one m = ap first_day (add-one m) ∙ first_day-suc m

pub first_day-zero : first_day 0 ≡ 0
unfolding first_day year_start total
first_day-zero = refl

-- the least and the greatest length of a month, by a test of each in turn
between : List ℕ → Bool
between [] = true
between (x ∷ xs) = leb 28 x && (leb x 31 && between xs)

get_or_of_between : (xs : List ℕ) → T (between xs) → (k : ℕ) → k < length xs → (28 ≤ get_or xs k 0) × (get_or xs k 0 ≤ 31)
unfolding between
get_or_of_between [] t k h = absurd (not-suc-le-zero h)
get_or_of_between (x ∷ xs) t zero h =
    let p = and_yes (leb 28 x) (leb x 31 && between xs) t in
    (leb→le 28 x p.0, leb→le x 31 (and_yes (leb x 31) (between xs) p.1).0)
get_or_of_between (x ∷ xs) t (suc k) h =
    let p = and_yes (leb 28 x) (leb x 31 && between xs) t in
    get_or_of_between xs (and_yes (leb x 31) (between xs) p.1).1 k (le_of_suc-le-suc h)

lengths_between : (l : Bool) (k : ℕ) → k < 12 → (28 ≤ get_or (lengths l) k 0) × (get_or (lengths l) k 0 ≤ 31)
unfolding between lengths
lengths_between true k h = get_or_of_between (lengths true) tt k h
lengths_between false k h = get_or_of_between (lengths false) tt k h

pub month_length-ge : (m : ℕ) → 28 ≤ month_length m
unfolding month_length
month_length-ge m = (lengths_between (leap (m / 12)) (m % 12) (omega arith)).0

pub month_length-le : (m : ℕ) → month_length m ≤ 31
unfolding month_length
month_length-le m = (lengths_between (leap (m / 12)) (m % 12) (omega arith)).1

-- ---- the same month of two years, by a test of each of the twelve in turn
passes : (ℕ → Bool) → ℕ → Bool
passes p zero = true
passes p (suc n) = p n && passes p n

at_passes : (p : ℕ → Bool) (n : ℕ) → T (passes p n) → (k : ℕ) → k < n → T (p k)
unfolding passes
at_passes p zero t k h = absurd (not-suc-le-zero h)
at_passes p (suc n) t k h =
    let both = and_yes (p n) (passes p n) t in
    elim (dec_lt k n) [
      | yes l ↦ at_passes p n both.1 k l
      | no l ↦ let e : k ≡ n = omega arith in rw e both.0
    ]

-- month k, from 0, has at most one day more than in another year
abbrev tested : Bool → Bool → ℕ → Bool
tested l j k = leb (get_or (lengths l) k 0) (get_or (lengths j) k 0 + 1)

tested_of_lt : (l j : Bool) (k : ℕ) → k < 12 → T (tested l j k)
unfolding passes lengths
tested_of_lt true true = at_passes (tested true true) 12 tt
tested_of_lt true false = at_passes (tested true false) 12 tt
tested_of_lt false true = at_passes (tested false true) 12 tt
tested_of_lt false false = at_passes (tested false false) 12 tt

-- only a leap day makes a difference
pub month_length-le_of_year : (m n : ℕ) → m % 12 ≡ n % 12 → month_length m ≤ month_length n + 1
unfolding month_length
month_length-le_of_year m n e =
    leb→le (month_length m) (month_length n + 1) (rw e (tested_of_lt (leap (m / 12)) (leap (n / 12)) (n % 12) (omega arith)))
