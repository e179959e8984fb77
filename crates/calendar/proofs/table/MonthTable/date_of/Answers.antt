-- `calendar::date_of` meets its contract: the estimate of the month is right, or one month late. Either way what is made is a
-- date of day d, and d has only one.
use mathlib.Core.Path.{◌≡◌, sym}
use Prim.Native.Nat.{ℕ, ◌-◌, ◌<◌}
use native.Mathlib.Omega.{arith}
use Rattle.calendar.specs.Calendar.{first_day, IsDate}
use Rattle.calendar.specs.Dates.{date_of}
use Rattle.calendar.specs.declared.Date.{Date}
use Rattle.calendar.proofs.Cycle.{pos_of_lt-first_day}
use Rattle.calendar.proofs.Dates.{IsDate-estimate, IsDate-estimate_pred, date_of_of_IsDate, IsDate-month-lt, IsDate-day-lt}
use Rattle.calendar.proofs.table.MonthTable.date_of.Goals as goal

-- what the contract asks of month m and the days from its first day f to day d
made : {d m f : ℕ} → f ≡ first_day m → IsDate d m (d - first_day m) → d < 7304850 → (◌≡◌ {A = Date} (record { month = m; day = d - f }) (date_of d)) × ((m < 240000) × (d - f < 31))
made e p h = rw e (sym (date_of_of_IsDate p), (IsDate-month-lt p h, IsDate-day-lt p))

-- d lies before the month that was estimated
pub overflow_sub-e : goal.overflow_sub-e
overflow_sub-e c = pos_of_lt-first_day c.args.d _ (omega arith)

pub overflow_sub-result : goal.overflow_sub-result
overflow_sub-result c = pos_of_lt-first_day c.args.d _ (omega arith)

pub overflow_sub-result-then-d-f : goal.overflow_sub-result-then-d-f
overflow_sub-result-then-d-f c = omega (arith, (IsDate-estimate_pred c.args.d (omega arith)).sum)

pub returns-then-d-f : goal.returns-then-d-f
returns-then-d-f c =
    let all = made c.first_day-p.ensures.is (IsDate-estimate_pred c.args.d (omega arith)) (omega arith) in record {
      is = all.0;
      months = all.1.0;
      days = all.1.1;
    }

-- the month that was estimated has begun
pub returns-else-d-f : goal.returns-else-d-f
returns-else-d-f c =
    let all = made c.first_day-f.ensures.is (IsDate-estimate c.args.d (omega arith)) (omega arith) in record {
      is = all.0;
      months = all.1.0;
      days = all.1.1;
    }
