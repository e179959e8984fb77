-- `calendar::month_length` meets its contract: two first days that follow one another are the month's days apart.
use native.Mathlib.Omega.{arith}
use Rattle.calendar.proofs.Lengths.{first_day-add-one, month_length-ge, month_length-le}
use Rattle.calendar.proofs.table.MonthTable.month_length.Goals as goal

pub overflow_sub-result : goal.overflow_sub-result
overflow_sub-result c =
    let next = first_day-add-one c.args.m in omega arith

pub returns : goal.returns
returns c =
    let m = c.args.m in
    let next = first_day-add-one m in
    let least = month_length-ge m in
    let most = month_length-le m in record {
      is = omega arith;
      least = omega arith;
      most = omega arith;
    }
