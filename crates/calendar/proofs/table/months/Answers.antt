-- `calendar::table::months` meets its contract: the table passes one test, which antt computes, along all of its months.
use Rattle.calendar.specs.Calendar.{leap, lengths, month_length}
use Rattle.calendar.proofs.Walk.{IsMonths_of_walk}
use Rattle.calendar.proofs.table.months.Goals as goal

pub returns-clause-entries : goal.returns-clause-entries
unfolding month_length lengths leap
returns-clause-entries c = IsMonths_of_walk tt
