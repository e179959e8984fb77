-- `calendar::day_of` meets its contract: a day of a month lies before the next month's first day, and so in range.
use Prim.Native.Nat.{suc}
use native.Mathlib.Omega.{arith}
use Rattle.calendar.proofs.Lengths.{first_day-suc, month_length-le}
use Rattle.calendar.proofs.Cycle.{first_day_in_range}
use Rattle.calendar.proofs.table.MonthTable.day_of.Goals as goal

pub overflow_add-result : goal.overflow_add-result
overflow_add-result c = omega (arith, month_length-le c.args.x.month)

pub returns : goal.returns
returns c =
    let m = c.args.x.month in
    let next = first_day-suc m in
    let in_range = first_day_in_range (suc m) c.requires.month in record { is = omega arith; range = omega arith }
