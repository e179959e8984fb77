use mathlib.Core.Path.{◌≡◌}
use Prim.Native.Nat.{◌+◌, ◌-◌}
use lib.ListN.{length}
use Rattle.relative.specs.Relative.{max_pairs}
use Rattle.merge.proofs.MergePass.{Merging}
use Rattle.merge.proofs.taking.take_lines.Given as goal

abbrev pub invariant-loop-i : goal.invariant-loop-i
invariant-loop-i l =
    Merging max_pairs l.first.list.now l.second.list.now l.first.is_list l.second.is_list l.first.table.now.heads l.first.table.now.links l.first.table.now.places l.second.table.now.places l.first.count l.first.is_table l.fn.book l.fn.report l.waiting l.book l.report l.i l.j l.written l.told × (length l.waiting ≡ length l.fn.waiting)

abbrev pub decreases-loop-i : goal.decreases-loop-i
decreases-loop-i l = length l.first.list.now - l.i + (length l.second.list.now - l.j)
