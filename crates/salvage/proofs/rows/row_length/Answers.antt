-- `salvage::rows::row_length` meets its contract.
use native.Mathlib.Omega.{arith}
use Rattle.salvage.proofs.PutRows.{length-ended_row}
use Rattle.salvage.proofs.rows.row_length.Goals as goal

pub returns : goal.returns
returns c =
    let first = c.count_digits.ensures in
    let second = c.count_digits-2.ensures in
    (omega (arith, first.0, second.0, length-ended_row c.args.n c.args.size), omega (arith, first.2, second.2))
