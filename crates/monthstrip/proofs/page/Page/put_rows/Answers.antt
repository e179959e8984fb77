-- `monthstrip::page::Page::put_rows` meets its contract. The invariant: the rows from row i on are in front, 24 bytes each at most.
use mathlib.Core.Path.{◌≡◌}
use Prim.Native.Nat.{◌+◌, ◌-◌, ◌*◌}
use native.Mathlib.Omega.{arith}
use lib.ListN.{length, drop}
use Rattle.monthstrip.proofs.Pages.{rows_none, row_more}
use Rattle.monthstrip.proofs.page.Page.put_rows.Goals as goal

pub loop-i-init : goal.loop-i-init
loop-i-init c = record {
  rows = rows_none c.args.weeks.now (drop (7 * length c.args.weeks.now) c.args.days.now) _;
  size = omega arith;
}

pub loop-i-preserved : goal.loop-i-preserved
loop-i-preserved c =
    let i = c.loop-i.i in record {
      rows = row_more _ _ i (7 * (i - 1) + 7 - 7 * (i - 1)) _ _ _ c.loop-i-test.true c.loop-i.auto.i (omega arith) c.loop-i.invariant.rows c.put_row.ensures.row;
      size = omega (arith, c.loop-i.invariant.size, c.put_row.ensures.length);
    }

pub returns : goal.returns
returns c = let n : c.loop-i.i ≡ 0 = omega arith in record {
  rows = rw (c.loop-i.invariant.rows, n);
  length = omega (arith, c.loop-i.invariant.size);
}
