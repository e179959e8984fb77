-- `lines::print::row_width` meets its contract.
use mathlib.Core.Path.{◌≡◌, ◌∙◌, ap}
use native.Mathlib.Omega.{arith}
use lib.IntN.{ℤ}
use lib.ListN.{length}
use mir.Syntax.{w32, w64}
use mir.Val.{to_z, of_z}
use Rattle.ints.proofs.Machine.{back}
use Rattle.text.specs.Decimal.{signed}
use Rattle.lines.proofs.Printing.{length-row_bytes}
use Rattle.lines.proofs.print.row_width.Goals as goal

pub returns : goal.returns
returns c =
    let row = c.args.row in
    let s : to_z w64 (of_z w64 row.seconds) ≡ row.seconds = back w64 row.seconds (omega arith) in
    let o : to_z w64 (of_z w64 c.from.result) ≡ row.offset = back w64 c.from.result (omega arith) ∙ c.from.ensures ∙ back w32 row.offset (omega arith) in (
      omega (arith, length-row_bytes row, c.count_digits-number.ensures.0, c.signed_width-seconds.ensures.0, c.signed_width-offset.ensures.0, ap (λ (z : ℤ). length (signed z)) s, ap (λ (z : ℤ). length (signed z)) o),
      omega arith,
      omega (arith, c.count_digits-number.ensures.2, c.signed_width-seconds.ensures.2, c.signed_width-offset.ensures.2),
    )
