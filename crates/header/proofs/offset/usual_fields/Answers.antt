-- `header::offset::usual_fields` meets its contract: its tests are those of the definition, and two digits are a field.
use mathlib.Core.Path.{◌≡◌, sym, ◌∙◌}
use mathlib.Core.Bool.{Bool, true, ◌&&◌}
use mathlib.Core.List.{List}
use Prim.Native.Nat.{ℕ, ◌+◌, ◌-◌, ◌≤◌}
use native.Mathlib.Omega.{arith}
use lib.Dec.{eqb}
use lib.ListN.{length, get_or}
use mir.Syntax.{w64}
use Rattle.ints.proofs.Machine.{back}
use Rattle.text.specs.Bytes.{is_digit, is_sign}
use Rattle.header.proofs.Usual.{tests, Usual_of_tests, usual_of_of_tests, usual_of_of_no_test, usual_of_of_length, fields_of_of_usual}
use Rattle.header.proofs.offset.usual_fields.Goals as goal

-- six bytes are left
left : (s : List ℕ) (at : ℕ) → at ≤ length s → length s - at ≡ 6 → length s ≡ at + 6
left s at h e = omega arith

-- and are those of the usual form
are_usual : (s : List ℕ) (at : ℕ) {sign hours minutes : Bool} → sign ≡ is_sign (get_or s (at + 1) 0)
    → hours ≡ (is_digit (get_or s (at + 2) 0) && is_digit (get_or s (at + 3) 0))
    → minutes ≡ (is_digit (get_or s (at + 4) 0) && is_digit (get_or s (at + 5) 0))
    → (eqb (get_or s at 0) 32 && sign && hours && minutes) ≡ true → tests s at ≡ true
are_usual s at sign-is hours-are minutes-are e = rw (← sign-is, ← hours-are, ← minutes-are) e

pub two_digits-hours-requires : goal.two_digits-hours-requires
two_digits-hours-requires c =
    (Usual_of_tests c.args.s.now c.args.at (left _ _ c.requires c.if-s-at-ne6.false)
    (are_usual c.args.s.now c.args.at c.is_sign.ensures c.both_digits.ensures c.both_digits-2.ensures c.if-space-is_sign.true)).hours

pub two_digits-minutes-requires : goal.two_digits-minutes-requires
two_digits-minutes-requires c =
    (Usual_of_tests c.args.s.now c.args.at (left _ _ c.requires c.if-s-at-ne6.false)
    (are_usual c.args.s.now c.args.at c.is_sign.ensures c.both_digits.ensures c.both_digits-2.ensures c.if-space-is_sign.true)).minutes

pub returns-then-space-is_sign : goal.returns-then-space-is_sign
returns-then-space-is_sign c =
    let s = c.args.s.now in
    let at = c.args.at in
    let n = left s at c.requires c.if-s-at-ne6.false in
    let t = are_usual s at c.is_sign.ensures c.both_digits.ensures c.both_digits-2.ensures c.if-space-is_sign.true in
    rw (
      back w64 c.two_digits-hours.result c.two_digits-hours.type_inv ∙ c.two_digits-hours.ensures,
      back w64 c.two_digits-minutes.result c.two_digits-minutes.type_inv ∙ c.two_digits-minutes.ensures,
    )
    (sym (usual_of_of_tests s at n t ∙ fields_of_of_usual s at (Usual_of_tests s at n t) _))

-- another byte among them
pub returns-else-space-is_sign : goal.returns-else-space-is_sign
returns-else-space-is_sign c =
    sym (usual_of_of_no_test _ _ (rw (← c.is_sign.ensures, ← c.both_digits.ensures, ← c.both_digits-2.ensures) c.if-space-is_sign.false))

-- fewer, or more
pub returns-then-s-at-ne6 : goal.returns-then-s-at-ne6
returns-then-s-at-ne6 c = let a = c.args in sym (usual_of_of_length a.s.now a.at (λ e. c.if-s-at-ne6.true (omega arith)))
