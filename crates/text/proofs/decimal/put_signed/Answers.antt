-- `text::decimal::put_signed` meets its contract: the digits, then a minus in front of them.
use mathlib.Core.Path.{◌∙◌, ap}
use Prim.Native.Nat.{ℕ, ◌≤◌}
use native.Mathlib.Omega.{arith}
use lib.IntN.{pos, nat_abs}
use lib.ListN.{length}
use mir.Syntax.{w64}
use Rattle.ints.proofs.Machine.{lit, param, lt_yes, lt_no}
use Rattle.text.specs.Decimal.{decimal}
use Rattle.text.proofs.Signed.{length-decimal-le-signed, length-signed_of_lt, put_signed_of_le, put_signed_of_lt}
use borrow.Author.Rules.{rules}
use Rattle.text.proofs.decimal.put_signed.Goals as goal

pub put_decimal-at-requires : goal.put_decimal-at-requires
put_decimal-at-requires c =
    let m = c.magnitude.ensures ∙ ap nat_abs (param w64 c.ranges.z).is in
    (omega (arith, ap (λ (m : ℕ). length (decimal m)) m, c.requires.0, length-decimal-le-signed c.args.z), search rules)

-- for a negative number a place is left for the minus
pub put_byte-requires : goal.put_byte-requires
put_byte-requires c =
    let m = c.magnitude.ensures ∙ ap nat_abs (param w64 c.ranges.z).is in
    let e = length-signed_of_lt c.args.z (lt_yes (param w64 c.ranges.z) (lit (pos 0)) c.if-z-lt0.true) in
    let h : c.put_decimal-at.result ≤ length c.args.room.now = omega (arith, c.requires.1, c.put_decimal-at.ensures.value) in
    (omega (arith, e, ap (λ (m : ℕ). length (decimal m)) m, c.requires.0, c.put_decimal-at.ensures.value), search rules)

pub returns-then-z-lt0 : goal.returns-then-z-lt0
returns-then-z-lt0 c =
    let m = c.magnitude.ensures ∙ ap nat_abs (param w64 c.ranges.z).is in
    let all = put_signed_of_lt c.args.room.now c.args.z _ c.args.end _ _ m c.put_decimal-at.ensures.value c.put_decimal-at.ensures.room_after
    _ (lt_yes (param w64 c.ranges.z) (lit (pos 0)) c.if-z-lt0.true) c.requires.0 c.requires.1 c.put_byte.ensures in record { value = all.0; room_after = all.1 }

pub returns-else-z-lt0 : goal.returns-else-z-lt0
returns-else-z-lt0 c =
    let m = c.magnitude.ensures ∙ ap nat_abs (param w64 c.ranges.z).is in
    let all = put_signed_of_le c.args.room.now c.args.z _ c.args.end _ _ m c.put_decimal-at.ensures.value c.put_decimal-at.ensures.room_after
    (lt_no (param w64 c.ranges.z) (lit (pos 0)) c.if-z-lt0.false) in record { value = all.0; room_after = all.1 }
