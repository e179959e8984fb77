use Rattle.std.proofs.Common.{◌≡◌, ◌++◌, ◌+◌, ◌*◌, drop, length}
use Rattle.monthstrip.specs.Page.{cells}
use Rattle.monthstrip.proofs.page.Page.put_cells.Given as goal

abbrev pub invariant-loop-i : goal.invariant-loop-i
invariant-loop-i l = record {
  cells : l.self ≡ cells (drop l.i l.days) ++ l.fn.self;
  size : length l.self + 3 * l.i ≡ 3 * length l.days + length l.fn.self;
}
