-- `lines::print::write_row` meets its contract: its two answers, each with the room that it leaves.
use mathlib.Core.Path.{◌∙◌, ap}
use mathlib.Core.List.{◌++◌}
use Prim.Native.Nat.{ℕ}
use native.Mathlib.Omega.{arith}
use borrow.Author.Tests.{lt-leb, le-leb}
use lib.ListN.{length, drop}
use Rattle.lines.specs.Rows.{row_bytes}
use Rattle.lines.proofs.print.write_row.Goals as goal

pub returns-then-out-n : goal.returns-then-out-n
returns-then-out-n c = let n = c.row_width-n.ensures in
    let e = lt-leb (length (row_bytes c.args.row)) (length c.args.out.now) (omega (arith, n.0, c.if-out-n.true)) in record {
      value = rw e;
      out_after = rw e;
      upper_bound = (omega arith, λ h. absurd (omega (arith, h, n.2, c.if-out-n.true)));
    }

pub returns-else-out-n : goal.returns-else-out-n
returns-else-out-n c = let n = c.row_width-n.ensures in
    let bytes = row_bytes c.args.row in
    let room = c.args.out.now in
    let e = le-leb (length bytes) (length room) (omega (arith, n.0, c.if-out-n.false)) in record {
      value = rw e n.0;
      out_after = rw e (c.put_row.ensures ∙ ap (λ (v : ℕ). bytes ++ drop v room) n.0);
      upper_bound = (n.2, λ h. n.1);
    }
