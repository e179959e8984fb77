use Rattle.text.specs.Places.{opens_with}
use Rattle.text.proofs.Runs.{None}
use Rattle.iso.proofs.cut.last_space.Given as goal

abbrev pub invariant-loop-e : goal.invariant-loop-e
invariant-loop-e l = None (opens_with 32) l.s l.e
