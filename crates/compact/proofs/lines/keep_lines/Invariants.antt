use Rattle.relative.specs.Relative.{max_pairs}
use Rattle.compact.proofs.Keeping.{Keeping}
use Rattle.compact.proofs.lines.keep_lines.Given as goal

abbrev pub invariant-loop-at : goal.invariant-loop-at
invariant-loop-at l = Keeping max_pairs l.book l.table.heads l.table.links l.table.places l.at l.count l.length

abbrev pub decreases-loop-at : goal.decreases-loop-at
decreases-loop-at l = l.at
