use Rattle.strip.specs.Held.{week_from}
use Rattle.strip.proofs.Filling.{Filled}
use Rattle.strip.proofs.weeks_of.Given as goal

abbrev pub invariant-loop-row : goal.invariant-loop-row
invariant-loop-row l = Filled (week_from l.start l.end) 6 l.row l.weeks
