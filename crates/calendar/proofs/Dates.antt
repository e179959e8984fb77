-- Days and dates: a day has one date (`IsDate-month_unique`, `IsDate-day_unique`), it is the one that `month_of` and `date_of` give
-- (`IsDate-month_of`, `month_of_of_IsDate`, `date_of_of_IsDate`), a later day is in no earlier month (`month_of-le`), its year is that of its month (`year_of-unique`, `year_of-month_of`), and a date is in range where its day is (`IsDate-month-lt`,
-- `IsDate-lt`; `lt_of_Below` of an answer). Last the estimate of a day's month: right, or one month late (`IsDate-estimate`,
-- `IsDate-estimate_pred`).
-- Assumes nothing.
use Rattle.std.specs.Prelude.{Option, Some}
use mathlib.Core.Path.{◌≡◌, ap, subst}
use Prim.Native.Nat.{ℕ, zero, suc, ◌+◌, ◌*◌, ◌-◌, ◌/◌, ◌%◌, ◌≤◌, ◌<◌}
use native.Mathlib.Nat.{zero-add, le_antisymm}
use native.Mathlib.Omega.{arith}
use native.Mathlib.Decide.{dec_lt}
use borrow.Author.Tests.{lt-ltb, le-ltb}
use Rattle.calendar.specs.Calendar.{month_length, year_length, year_start, first_day, IsDate, span_of, year_of, month_of}
use Rattle.calendar.specs.Dates.{date_of, Below}
use Rattle.calendar.specs.declared.Date.{Date}
use Rattle.calendar.proofs.Lengths.{year_start-suc, first_day-year, first_day-suc, month_length-le}
use Rattle.calendar.proofs.Cycle.{year_start-mul-400, year_start-add-400, first_day-lower, first_day-upper, first_day-le, le_of_first_day, lt_of_first_day_in_range, pos_of_lt-first_day}

-- ---- a day has one date

IsDate_of_between : (d m : ℕ) → first_day m ≤ d → d < first_day (suc m) → IsDate d m (d - first_day m)
IsDate_of_between d m a b = record { sum = omega arith; within = omega (arith, first_day-suc m) }

pub IsDate-month_unique : {d m k n j : ℕ} → IsDate d m k → IsDate d n j → m ≡ n
IsDate-month_unique {d} {m} {k} {n} {j} p q =
    le_antisymm (le_of_first_day m n d (omega arith) (omega (arith, first_day-suc n))) (le_of_first_day n m d (omega arith) (omega (arith, first_day-suc m)))

pub IsDate-day_unique : {d m k n j : ℕ} → IsDate d m k → IsDate d n j → k ≡ j
IsDate-day_unique p q = omega (arith, ap first_day (IsDate-month_unique p q))

-- ---- the month of a day

-- the span that a day falls in has begun by it, and the next one has not
module _ (start size : ℕ → ℕ) (step : (i : ℕ) → start (suc i) ≡ start i + size i) where
  span_of-between : (n i d : ℕ) → start i + d < start (suc (n + i)) → (start (span_of size n i d) ≤ start i + d) × (start i + d < start (suc (span_of size n i d)))
  unfolding span_of
  span_of-between zero i d h = (omega arith, rw zero-add at h)
  span_of-between (suc n) i d h =
      elim (dec_lt d (size i)) [
        | yes l ↦ rw (lt-ltb d (size i) l) (omega arith, omega (arith, step i))
        | no l ↦ let e : start (suc i) + (d - size i) ≡ start i + d = omega (arith, step i) in
            let j : n + suc i ≡ suc n + i = omega arith in
            let g : start (suc i) + (d - size i) < start (suc (n + suc i)) = rw (e, j) h in
            rw (le-ltb d (size i) (omega arith)) (rw e at (span_of-between n (suc i) (d - size i) g))
      ]

-- a year has begun by a day of it, and the next has not
pub year_of-between : (d : ℕ) → (year_start (year_of d) ≤ d) × (d < year_start (suc (year_of d)))
unfolding year_of
year_of-between d =
    let q = d / 146097 in
    let e : year_start (q * 400) + d % 146097 ≡ d = omega (arith, year_start-mul-400 q) in
    let i : suc (399 + q * 400) ≡ q * 400 + 400 = omega arith in
    let h : year_start (q * 400) + d % 146097 < year_start (suc (399 + q * 400)) = rw (i, year_start-add-400) (omega arith) in
    rw e at (span_of-between year_start year_length year_start-suc 399 (q * 400) (d % 146097) h)

month_of-between : (d : ℕ) → (first_day (month_of d) ≤ d) × (d < first_day (suc (month_of d)))
unfolding month_of
month_of-between d =
    let y = year_of d in
    let f = first_day-year y in
    let b = year_of-between d in
    let e : first_day (y * 12) + (d - year_start y) ≡ d = omega (arith, f, b.0) in
    let i : suc (11 + y * 12) ≡ suc y * 12 = omega arith in
    let h : first_day (y * 12) + (d - year_start y) < first_day (suc (11 + y * 12)) = rw (e, i, first_day-year (suc y)) b.1 in
    rw e at (span_of-between first_day month_length first_day-suc 11 (y * 12) (d - year_start y) h)

-- and it is the only such year
pub year_of-unique : (d y : ℕ) → year_start y ≤ d → d < year_start (suc y) → year_of d ≡ y
year_of-unique d y a b = le_antisymm (in_order (year_of d) y (year_of-between d).0 b) (in_order y (year_of d) a (year_of-between d).1)
  where
    in_order : (x z : ℕ) → year_start x ≤ d → d < year_start (suc z) → x ≤ z
    in_order x z h k =
        let i : suc (11 + z * 12) ≡ suc z * 12 = omega arith in
        let le : x * 12 ≤ 11 + z * 12 = le_of_first_day (x * 12) (11 + z * 12) d (rw first_day-year h) (rw (i, first_day-year) k) in
        omega arith

-- the year of a day is that of its month
pub year_of-month_of : (d : ℕ) → year_of d ≡ month_of d / 12
year_of-month_of d =
    let y = month_of d / 12 in
    let low : first_day (y * 12) ≤ first_day (month_of d) = first_day-le (y * 12) (month_of d) (omega arith) in
    let high : first_day (suc (month_of d)) ≤ first_day (suc y * 12) = first_day-le (suc (month_of d)) (suc y * 12) (omega arith) in
    year_of-unique d y (omega (arith, first_day-year y, (month_of-between d).0)) (omega (arith, first_day-year (suc y), (month_of-between d).1))

-- the month that is computed makes a date
pub IsDate-month_of : (d : ℕ) → IsDate d (month_of d) (d - first_day (month_of d))
IsDate-month_of d = IsDate_of_between d (month_of d) (month_of-between d).0 (month_of-between d).1

-- and a date's month is the one that is computed
pub month_of_of_IsDate : {d m k : ℕ} → IsDate d m k → month_of d ≡ m
month_of_of_IsDate {d} p = IsDate-month_unique (IsDate-month_of d) p

-- a later day is in the same month or a later one
pub month_of-le : (d e : ℕ) → d ≤ e → month_of d ≤ month_of e
month_of-le d e h = le_of_first_day (month_of d) (month_of e) d (month_of-between d).0 (omega (arith, (month_of-between e).1))

pub date_of_of_IsDate : {d m k : ℕ} → IsDate d m k → date_of d ≡ record { month = m; day = k }
unfolding date_of
date_of_of_IsDate {d} p =
    λ i. record { month = month_of_of_IsDate p i; day = IsDate-day_unique (IsDate-month_of d) p i }

-- what a caller of `date_of` learns
pub IsDate_of_date_of : {x : Date} {d : ℕ} → x ≡ date_of d → IsDate d x.month x.day
unfolding date_of
IsDate_of_date_of {x} {d} e = rw e (IsDate-month_of d)

-- ---- ranges

-- what a caller learns of a day, or a time, that was found
pub lt_of_Below : {n x : ℕ} {f : Option ℕ} → f ≡ Some x → Below n f → x < n
lt_of_Below {n} e b = subst (Below n) e b

pub IsDate-day-lt : {d m k : ℕ} → IsDate d m k → k < 31
IsDate-day-lt {d} {m} p = omega (arith, month_length-le m)

pub IsDate-month-lt : {d m k : ℕ} → IsDate d m k → d < 7304850 → m < 240000
IsDate-month-lt {d} {m} p h = lt_of_first_day_in_range m d (omega arith) h

-- ---- the estimate of a day's month, as the code has it

abbrev estimate : ℕ → ℕ
estimate d = (d + 3) * 1600 / 48699

pub IsDate-estimate : (d : ℕ) → first_day (estimate d) ≤ d → IsDate d (estimate d) (d - first_day (estimate d))
IsDate-estimate d h = IsDate_of_between d (estimate d) h (omega (arith, first_day-lower (suc (estimate d))))

pub IsDate-estimate_pred : (d : ℕ) → d < first_day (estimate d) → IsDate d (estimate d - 1) (d - first_day (estimate d - 1))
IsDate-estimate_pred d h =
    let p = pos_of_lt-first_day d (estimate d) h in
    let e : estimate d ≡ suc (estimate d - 1) = omega arith in
    IsDate_of_between d (estimate d - 1) (omega (arith, first_day-upper (estimate d - 1))) (omega (arith, ap first_day e))
