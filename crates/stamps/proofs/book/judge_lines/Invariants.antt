use Prim.Native.Nat.{◌-◌}
use lib.ListN.{length as length_of}
use Rattle.relative.specs.Relative.{max_pairs}
use Rattle.stamps.proofs.Books.{Judging}
use Rattle.stamps.proofs.book.judge_lines.Given as goal

abbrev pub invariant-loop-at : goal.invariant-loop-at
invariant-loop-at l = Judging max_pairs l.book l.initial.marks l.marks l.at l.n l.length l.cut_off

abbrev pub decreases-loop-at : goal.decreases-loop-at
decreases-loop-at l = length_of l.book - l.at
