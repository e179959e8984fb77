use Prim.Native.Nat.{◌-◌}
use lib.ListN.{length}
use Rattle.stamps.proofs.Marks.{Copying}
use Rattle.stamps.proofs.book.copy_marked.Given as goal

abbrev pub invariant-loop-at : goal.invariant-loop-at
invariant-loop-at l = Copying l.book l.marks l.initial.room l.room l.at l.n l.written

abbrev pub decreases-loop-at : goal.decreases-loop-at
decreases-loop-at l = length l.book - l.at
