-- `calendar::table::MonthTable::whole` meets its contract: the table passes one test, which antt computes, along all of its months.
use Rattle.calendar.specs.Calendar.{leap, lengths, month_length}
use Rattle.calendar.proofs.Walk.{IsMonths_of_walk}
use Rattle.calendar.proofs.table.MonthTable.whole.Goals as goal

pub invariant_of-result : goal.invariant_of-result
unfolding month_length lengths leap
invariant_of-result c = record { right = IsMonths_of_walk tt }
