-- `salvage::rows::put_row_if_room` meets its contract.
use mathlib.Core.Path.{ap}
use Prim.Native.Nat.{ℕ, ◌+◌}
use native.Mathlib.Omega.{arith}
use Rattle.salvage.specs.Held.{ended_row}
use Rattle.salvage.proofs.PutRows.{put_none, put_all, put_at-row}
use Rattle.salvage.proofs.rows.put_row_if_room.Goals as goal

-- there is no room
pub returns-else-end-report : goal.returns-else-end-report
returns-else-end-report c =
    let end_is = ap (λ (k : ℕ). c.args.at + k) c.row_length.ensures.0 in record {
      value = end_is;
      report_after = put_none (ended_row c.args.n c.args.size) c.args.report.now c.args.at (omega (arith, c.if-end-report.false, end_is));
    }

pub returns-then-end-report : goal.returns-then-end-report
returns-then-end-report c =
    let end_is = ap (λ (k : ℕ). c.args.at + k) c.row_length.ensures.0 in
    let put = put_at-row c.args.n c.args.size c.args.report.now _ c.args.at _ end_is c.put_row.ensures in record {
      value = end_is;
      report_after = put_all (ended_row c.args.n c.args.size) c.args.report.now _ c.args.at (omega (arith, c.if-end-report.true, end_is)) put;
    }

pub put_row-requires : goal.put_row-requires
put_row-requires c = (omega (arith, c.row_length.ensures.0), c.if-end-report.true)
