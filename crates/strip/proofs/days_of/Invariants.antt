use Rattle.strip.specs.Held.{number_from}
use Rattle.strip.proofs.Filling.{Filled}
use Rattle.strip.proofs.days_of.Given as goal

abbrev pub invariant-loop-place : goal.invariant-loop-place
invariant-loop-place l = Filled (number_from l.before l.length) 42 l.place l.days
