-- `calendar::first_day` meets its contract: month m's place in its cycle, carried on by the whole cycles before it.
use native.Mathlib.Omega.{arith}
use Rattle.calendar.proofs.Cycle.{first_day_by_cycle, first_day_in_range}
use Rattle.calendar.proofs.table.MonthTable.first_day.Goals as goal

pub returns : goal.returns
returns c =
    let by_cycle = first_day_by_cycle c.args.m in
    let in_range = first_day_in_range c.args.m c.requires.month in record { is = omega arith; range = omega arith }

pub overflow_add-result : goal.overflow_add-result
overflow_add-result c =
    let by_cycle = first_day_by_cycle c.args.m in
    let in_range = first_day_in_range c.args.m c.requires.month in omega arith
