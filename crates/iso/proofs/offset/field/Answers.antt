-- `iso::offset::field` meets its contract: two bytes are a number from -99 to 99, if they are one.
use Rattle.std.specs.Prelude.{Some}
use mathlib.Core.Path.{sym, ap, ◌∙◌}
use lib.IntN.{pos, negsuc}
use mir.Syntax.{w64}
use mir.Val.{to_z, of_z}
use Rattle.ints.specs.Range.{In}
use Rattle.ints.proofs.Machine.{At, In_of_At, known, param, le_yes, le_no}
use Rattle.iso.specs.Parts.{int32}
use Rattle.iso.proofs.Offsets.{int32-two-within, In_of_Within, up_to-not, up_to-value, up_to-over}
use Rattle.iso.proofs.offset.field.Goals as goal

-- no number
pub returns-in_err-z-clause-is : goal.returns-in_err-z-clause-is
returns-in_err-z-clause-is c =
    c.from_residual.ensures ∙ up_to-not _ _ (sym c.signed_number.ensures ∙ c.in_err-z.was)

-- up to the limit
pub returns-then-z-limit : goal.returns-then-z-limit
unfolding int32
returns-then-z-limit c =
    let e = sym c.signed_number.ensures ∙ c.in_ok-z.was in
    let w : In (negsuc 98) (pos 99) c.in_ok-z.z = In_of_Within {k = 99} e (int32-two-within _ _) in
    let z : At (negsuc 98) (pos 99) c.in_ok-z.z (to_z w64 (of_z w64 c.in_ok-z.z)) = known w64 tt w in record {
      is = ap Some z.is ∙ up_to-value _ _ e (le_yes z (param w64 c.ranges.limit) c.if-z-limit.true);
      range = In_of_At z;
    }

-- beyond it
pub returns-else-z-limit-clause-is : goal.returns-else-z-limit-clause-is
unfolding int32
returns-else-z-limit-clause-is c =
    let e = sym c.signed_number.ensures ∙ c.in_ok-z.was in
    let w : In (negsuc 98) (pos 99) c.in_ok-z.z = In_of_Within {k = 99} e (int32-two-within _ _) in
    up_to-over _ _ e (le_no (known w64 tt w) (param w64 c.ranges.limit) c.if-z-limit.false)
