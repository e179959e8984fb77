-- `time::write::header_sign` meets its contract.
use mathlib.Core.Path.{◌≡◌, sym, ap, ◌∙◌}
use mathlib.Core.Bool.{Bool, ◌&&◌}
use native.Mathlib.Omega.{arith}
use lib.Dec.{eqb}
use lib.IntN.{pos}
use mir.Syntax.{w32}
use mir.Val.{SFits, of_z}
use Rattle.ints.proofs.Equals.{eqb-of_z}
use mir.ValLaws.{to_z-of_z}
use Rattle.time.specs.Header.{sign_byte, header_sign, is_minus_zero}
use Rattle.time.specs.declared.Time.{Time}
use Rattle.time.proofs.write.header_sign.Goals as goal

-- the test of the code
test-is : (t : Time) → SFits w32 t.offset → (t.mark && eqb (of_z w32 t.offset) (of_z w32 (pos 0))) ≡ is_minus_zero t
test-is t f = ap (λ (b : Bool). t.mark && b) (eqb-of_z w32 t.offset (pos 0) f (record { sfits = omega arith }))

pub returns-then-t : goal.returns-then-t
unfolding header_sign
returns-then-t c =
    let t = c.args.t in
    rw (sym (test-is t (record { sfits = omega arith })) ∙ c.if-t.true)

pub returns-else-t : goal.returns-else-t
unfolding header_sign
returns-else-t c =
    let t = c.args.t in
    let f : SFits w32 t.offset = record { sfits = omega arith } in
    rw (sym (test-is t f) ∙ c.if-t.false) (c.sign_byte.ensures ∙ ap sign_byte (to_z-of_z w32 t.offset f))
