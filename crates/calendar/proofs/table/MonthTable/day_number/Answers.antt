-- `calendar::day_number` meets its contract: at each return the tests that led there decide whether the date exists.
use mathlib.Core.Path.{◌≡◌, ◌∙◌}
use Prim.Native.Nat.{ℕ, ◌+◌, ◌≤◌, ◌<◌}
use native.Mathlib.Omega.{arith}
use borrow.Author.Tests.{le-ltb, lt-ltb, le-leb, lt-leb}
use Rattle.calendar.specs.Calendar.{month_length, first_day}
use Rattle.calendar.specs.Dates.{day_number, exists, month_number}
use Rattle.calendar.proofs.Lengths.{first_day-add-one}
use Rattle.calendar.proofs.table.MonthTable.day_number.Goals as goal
use Rattle.calendar.proofs.table.MonthTable.day_number.Goals.{then-y-ge-YEARS_COUNTED-via-then-y-ge-YEARS_COUNTED, then-y-ge-YEARS_COUNTED-via-else-y-ge-YEARS_COUNTED+then-m-lt1, then-y-ge-YEARS_COUNTED-via-else-y-ge-YEARS_COUNTED+else-m-lt1+then-m-gt12, then-y-ge-YEARS_COUNTED-via-else-y-ge-YEARS_COUNTED+else-m-lt1+else-m-gt12+then-k-lt1}

-- the month's days, from its first day to the next month's
days : {f r : ℕ} (m : ℕ) → f ≡ first_day m → r ≡ first_day (m + 1) → r ≡ f + month_length m
days m a b = b ∙ first_day-add-one m ∙ rw a

-- a year beyond 9999, a month 0, a month beyond 12, a day 0
pub returns-then-y-ge-YEARS_COUNTED-clause-is : goal.returns-then-y-ge-YEARS_COUNTED-clause-is
unfolding day_number exists
returns-then-y-ge-YEARS_COUNTED-clause-is c =
    elim c.then-y-ge-YEARS_COUNTED.branch [
      | then-y-ge-YEARS_COUNTED-via-then-y-ge-YEARS_COUNTED w ↦ simp (le-ltb c.args.y 20000 (omega (arith, w.if-y-ge-YEARS_COUNTED.true)))
      | then-y-ge-YEARS_COUNTED-via-else-y-ge-YEARS_COUNTED+then-m-lt1 w ↦ simp (lt-ltb _ _ w.if-y-ge-YEARS_COUNTED.false, lt-leb _ _ w.if-m-lt1.true)
      | then-y-ge-YEARS_COUNTED-via-else-y-ge-YEARS_COUNTED+else-m-lt1+then-m-gt12 w ↦ simp (lt-ltb _ _ w.if-y-ge-YEARS_COUNTED.false, le-leb _ _ w.if-m-lt1.false, lt-leb _ _ w.if-m-gt12.true)
      | then-y-ge-YEARS_COUNTED-via-else-y-ge-YEARS_COUNTED+else-m-lt1+else-m-gt12+then-k-lt1 w ↦ simp (lt-ltb _ _ w.if-y-ge-YEARS_COUNTED.false, le-leb _ _ w.if-m-lt1.false, le-leb _ _ w.if-m-gt12.false, lt-leb _ _ w.if-k-lt1.true)
    ]

pub overflow_sub-first_day : goal.overflow_sub-first_day
overflow_sub-first_day c =
    let a = c.args in
    let month_days = days (month_number a.y a.m) c.first_day-f.ensures.is c.first_day.ensures.is in omega arith

-- a day beyond the month's last
pub returns-then-first_day-f-clause-is : goal.returns-then-first_day-f-clause-is
unfolding day_number exists
returns-then-first_day-f-clause-is c =
    let a = c.args in
    let month_days = days (month_number a.y a.m) c.first_day-f.ensures.is c.first_day.ensures.is in
    let beyond : month_length (month_number a.y a.m) < a.k = omega (arith, c.if-first_day-f.true) in
    simp (
      lt-ltb _ _ c.if-y-ge-YEARS_COUNTED.false,
      le-leb _ _ c.if-m-lt1.false,
      le-leb _ _ c.if-m-gt12.false,
      le-leb _ _ c.if-k-lt1.false,
      lt-leb _ _ beyond,
    )

-- a date that exists
pub returns-clause-is : goal.returns-clause-is
unfolding day_number exists
returns-clause-is c =
    let a = c.args in
    let month_days = days (month_number a.y a.m) c.first_day-f.ensures.is c.first_day.ensures.is in
    let within : a.k ≤ month_length (month_number a.y a.m) = omega (arith, c.if-first_day-f.false) in
    simp (
      lt-ltb _ _ c.if-y-ge-YEARS_COUNTED.false,
      le-leb _ _ c.if-m-lt1.false,
      le-leb _ _ c.if-m-gt12.false,
      le-leb _ _ c.if-k-lt1.false,
      le-leb _ _ within,
      c.first_day-f.ensures.is,
    )
