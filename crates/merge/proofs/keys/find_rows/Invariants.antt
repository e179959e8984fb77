use Rattle.relative.specs.Relative.{max_pairs}
use Rattle.merge.proofs.WaitingRows.{Finding}
use Rattle.merge.proofs.keys.find_rows.Given as goal

abbrev pub invariant-loop-k : goal.invariant-loop-k
invariant-loop-k l =
    Finding max_pairs l.first.list.now l.second.list.now l.first.is_list l.second.is_list l.first.table.now.places l.second.table.now.places l.first.count l.waiting l.k l.length
