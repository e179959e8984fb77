use Prim.Native.Nat.{◌+◌, ◌-◌}
use lib.ListN.{length as length_of}
use Rattle.relative.specs.Relative.{max_pairs}
use Rattle.salvage.proofs.Pass.{Taking}
use Rattle.salvage.proofs.lines.take_lines.Given as goal

abbrev pub invariant-loop-at : goal.invariant-loop-at
invariant-loop-at l = Taking max_pairs l.book l.initial.room l.initial.report l.room l.report l.at l.number l.length l.report_length l.last_bad

abbrev pub decreases-loop-at : goal.decreases-loop-at
decreases-loop-at l = length_of l.book + 1 - l.at
