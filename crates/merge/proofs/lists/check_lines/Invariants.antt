use Prim.Native.Nat.{◌-◌}
use lib.ListN.{length}
use Rattle.relative.specs.Relative.{max_pairs}
use Rattle.merge.proofs.ListLines.{Checking}
use Rattle.merge.proofs.lists.check_lines.Given as goal

abbrev pub invariant-loop-at : goal.invariant-loop-at
invariant-loop-at l = Checking max_pairs l.machine l.list l.at l.n l.above

abbrev pub decreases-loop-at : goal.decreases-loop-at
decreases-loop-at l = length l.list - l.at
