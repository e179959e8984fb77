-- `text::decimal::signed_width` meets its contract.
use mathlib.Core.Path.{ap, ◌∙◌}
use Prim.Native.Nat.{ℕ}
use native.Mathlib.Omega.{arith}
use lib.IntN.{pos, nat_abs}
use lib.ListN.{length}
use mir.Syntax.{w64}
use Rattle.ints.proofs.Machine.{lit, param, lt_yes, lt_no, nat_abs-le_of_SFits}
use Rattle.text.specs.Decimal.{decimal}
use Rattle.text.proofs.Signed.{length-signed_of_lt, length-signed_of_le, length_signed_le}
use Rattle.text.proofs.decimal.signed_width.Goals as goal

pub returns-then-z-lt0 : goal.returns-then-z-lt0
returns-then-z-lt0 c =
    let n = c.count_digits-n.ensures.0 ∙ ap (λ (m : ℕ). length (decimal m)) (c.magnitude.ensures ∙ ap nat_abs (param w64 c.ranges.z).is) in
    let e = length-signed_of_lt c.args.z (lt_yes (param w64 c.ranges.z) (lit (pos 0)) c.if-z-lt0.true) in
    let most = length_signed_le c.args.z (nat_abs-le_of_SFits c.args.z c.ranges.z) in
    (omega (arith, e, n), omega arith, omega (arith, e, most, n))

pub returns-else-z-lt0 : goal.returns-else-z-lt0
returns-else-z-lt0 c =
    let n = c.count_digits-n.ensures.0 ∙ ap (λ (m : ℕ). length (decimal m)) (c.magnitude.ensures ∙ ap nat_abs (param w64 c.ranges.z).is) in
    let e = length-signed_of_le c.args.z (lt_no (param w64 c.ranges.z) (lit (pos 0)) c.if-z-lt0.false) in
    (omega (arith, e, n), c.count_digits-n.ensures.1, c.count_digits-n.ensures.2)
