use lib.ListN.{length}
use Rattle.compact.proofs.Copying.{Copying}
use Rattle.compact.proofs.lines.copy_lines.Given as goal

abbrev pub invariant-loop-k : goal.invariant-loop-k
invariant-loop-k l = Copying l.book l.places l.fn.room l.room (length l.places) l.k l.written
