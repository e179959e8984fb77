-- `monthstrip::page::Page::put_cells` meets its contract. The invariant: the cells of the days from i on are in front, three columns each.
use mathlib.Core.Path.{◌≡◌, ap}
use native.Mathlib.Omega.{arith}
use lib.ListN.{length}
use Rattle.monthstrip.proofs.Pages.{cells_none, cell_more}
use Rattle.monthstrip.proofs.page.Page.put_cells.Goals as goal

pub loop-i-init : goal.loop-i-init
loop-i-init c = record {
  cells = cells_none c.args.days.now _;
  size = omega arith;
}

pub loop-i-preserved : goal.loop-i-preserved
loop-i-preserved c = record {
  cells = cell_more _ c.loop-i.i _ _ _ _ c.loop-i-test.true c.loop-i.auto.i c.loop-i.invariant.cells c.put_cell.ensures c.put_text.ensures;
  size = omega (arith, c.loop-i.invariant.size, ap length c.put_cell.ensures, ap length c.put_text.ensures);
}

pub returns : goal.returns
returns c = let n : c.loop-i.i ≡ 0 = omega arith in record {
  cells = rw (c.loop-i.invariant.cells, n);
  length = omega arith;
}
