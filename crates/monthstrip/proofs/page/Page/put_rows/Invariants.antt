use Rattle.std.proofs.Common.{◌≡◌, ◌++◌, ◌+◌, ◌*◌, ◌≤◌, drop, length}
use Rattle.monthstrip.specs.Page.{rows}
use Rattle.monthstrip.proofs.page.Page.put_rows.Given as goal

abbrev pub invariant-loop-i : goal.invariant-loop-i
invariant-loop-i l = record {
  rows : l.self ≡ rows (drop l.i l.weeks) (drop (7 * l.i) l.days) ++ l.fn.self;
  size : length l.self + 24 * l.i ≤ 24 * length l.weeks + length l.fn.self;
}
