-- Weekdays, Mondays, Thursdays and weeks. A weekday is one of seven (`weekday-ge`, `weekday-le`); the Monday of a week is as many days
-- before a day of it as the weekday says (`monday-add`), and no more (`monday-le`). A year's first Thursday comes within its first seven
-- days (`first_thursday_is`), so the week of a Thursday is known from the first day of its year alone (`week_of_thursday`), and a year has at
-- most 53 weeks (`week-le-of-thursday`).
-- Assumes nothing.
use mathlib.Core.Path.{◌≡◌, refl}
use mathlib.Core.Bool.{Bool, true, false, cond}
use Prim.Native.Nat.{ℕ, zero, suc, ◌+◌, ◌-◌, ◌/◌, ◌%◌, ◌≤◌, ◌<◌}
use native.Mathlib.Omega.{arith}
use lib.Dec.{eqb}
use native.Mathlib.Decide.{dec_lt}
use borrow.Author.Tests.{eqb-true, eqb-false}
use Rattle.text.proofs.Lists.{by_test}
use Rattle.calendar.specs.Calendar.{year_start, year_length, year_of, leap}
use Rattle.calendar.proofs.Lengths.{year_start-suc}
use Rattle.calendar.proofs.Dates.{year_of-between}
use Rattle.strip.specs.Weeks.{weekday, monday, thursday, thursday_from, first_thursday, week_year, week}

-- ---- weekdays

pub weekday_is : (d : ℕ) → weekday d ≡ (d + 5) % 7 + 1
unfolding weekday
weekday_is d = refl

pub weekday-ge : (d : ℕ) → 1 ≤ weekday d
unfolding weekday
weekday-ge d = omega arith

pub weekday-le : (d : ℕ) → weekday d ≤ 7
unfolding weekday
weekday-le d = omega arith

-- ---- Monday and Thursday of a week

pub monday-add : (d : ℕ) → 6 ≤ d → monday d + (d + 5) % 7 ≡ d
unfolding monday weekday
monday-add d h = omega arith

pub thursday_of_thursday : (d : ℕ) → weekday d ≡ 4 → thursday d ≡ d
unfolding thursday monday weekday
thursday_of_thursday d h = omega arith

-- ---- the first Thursday of a year

-- the days from day d to the next Thursday
abbrev wait : ℕ → ℕ
wait d = (12 - d % 7) % 7

thursday_from_is : (n d : ℕ) → wait d ≤ n → thursday_from n d ≡ d + wait d
unfolding thursday_from weekday
thursday_from_is zero d h = omega arith
thursday_from_is (suc n) d h =
    by_test (eqb ((d + 5) % 7 + 1) 4)
    (λ e. rw e (omega (arith, eqb-true ((d + 5) % 7 + 1) 4 e)))
    (λ e. let later : 0 < wait d = elim (dec_lt 0 (wait d)) [ yes l ↦ l | no l ↦ absurd (eqb-false ((d + 5) % 7 + 1) 4 e (omega arith)) ] in
    let shorter : suc (wait (suc d)) ≡ wait d = omega arith in
    rw e (omega (arith, thursday_from_is n (suc d) (omega arith))))

pub first_thursday_is : (y : ℕ) → first_thursday y ≡ year_start y + wait (year_start y)
unfolding first_thursday
first_thursday_is y = thursday_from_is 6 (year_start y) (omega arith)

-- ---- weeks

pub week_of_thursday : (d : ℕ) → weekday d ≡ 4 → week d ≡ (d - year_start (year_of d)) / 7 + 1
unfolding week week_year
week_of_thursday d h = rw (thursday_of_thursday d h, first_thursday_is) (by_year (year_of-between d).0 (rw weekday_is at h))
  where
    by_year : {s : ℕ} → s ≤ d → (d + 5) % 7 + 1 ≡ 4 → (d - (s + wait s)) / 7 + 1 ≡ (d - s) / 7 + 1
    by_year {s} l e = omega arith

-- a year has 365 or 366 days
year_length-le : (y : ℕ) → year_length y ≤ 366
unfolding year_length
year_length-le y = by_leap (leap y)
  where
    by_leap : (l : Bool) → cond l 366 365 ≤ 366
    by_leap true = omega arith
    by_leap false = omega arith

pub year_length-ge : (y : ℕ) → 365 ≤ year_length y
unfolding year_length
year_length-ge y = by_leap (leap y)
  where
    by_leap : (l : Bool) → 365 ≤ cond l 366 365
    by_leap true = omega arith
    by_leap false = omega arith

pub days_into_year : (d : ℕ) → d - year_start (year_of d) < 366
days_into_year d = omega (arith, (year_of-between d).0, (year_of-between d).1, year_start-suc (year_of d), year_length-le (year_of d))
