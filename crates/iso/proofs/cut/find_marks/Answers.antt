-- `iso::cut::find_marks` meets its contract. The invariant: from e on there is no space, no sign has a digit after it, and `digit`
-- says whether a digit is at e.
use mathlib.Core.Path.{◌≡◌, sym}
use mathlib.Core.Bool.{false}
use mathlib.Core.List.{List}
use Prim.Native.Nat.{ℕ}
use native.Mathlib.Nat.{le_refl}
use native.Mathlib.Omega.{arith}
use borrow.Author.Tests.{eq-eqb, ne_eqb}
use lib.ListN.{length, get_or, drop, drop_of_length-le}
use Rattle.text.specs.Bytes.{is_digit, is_sign}
use Rattle.text.specs.Places.{last_place, opens_with}
use Rattle.text.proofs.Lists.{drop-sub-one}
use Rattle.text.proofs.Runs.{none_at_end, last-here, none_before}
use Rattle.iso.specs.Cut.{is_offset}
use Rattle.iso.proofs.Marks.{sign_here, sign_before}
use Rattle.iso.proofs.cut.find_marks.Goals as goal

no_digit : (s : List ℕ) → is_digit (get_or (drop (length s) s) 0 0) ≡ false
unfolding is_digit
no_digit s = rw (drop_of_length-le s (le_refl (length s)))

pub loop-e-init : goal.loop-e-init
loop-e-init c = let s = c.args.s.now in (none_at_end (opens_with 32) s, none_at_end is_offset s, no_digit s)

-- a space is neither sign nor digit
pub last_sign-requires : goal.last_sign-requires
unfolding is_sign is_digit
last_sign-requires c =
    let p = c.loop-e-test.true in
    let v = c.loop-e.invariant in
    let n = sign_before _ p v.1 v.2 (rw c.if-b-eq32.true) in
    (n.0, n.1, rw (drop-sub-one _ _ p v.0.0, c.if-b-eq32.true))

-- the last space
pub returns-then-b-eq32 : goal.returns-then-b-eq32
unfolding last_place
returns-then-b-eq32 c = record {
  space = last-here (opens_with 32) _ _ c.loop-e-test.true c.loop-e.invariant.0 (eq-eqb _ _ c.if-b-eq32.true);
  sign = c.last_sign.ensures;
}

-- the rightmost sign
pub last_space-requires : goal.last_space-requires
unfolding last_place
last_space-requires c =
    none_before (opens_with 32) _ _ c.loop-e-test.true c.loop-e.invariant.0 (ne_eqb _ _ c.if-b-eq32.false)

pub returns-then-is_sign-digit : goal.returns-then-is_sign-digit
returns-then-is_sign-digit c =
    let v = c.loop-e.invariant in record {
      space = c.last_space.ensures;
      sign = sign_here _ c.loop-e-test.true v.1 v.2 (rw (← c.is_sign.ensures) c.if-is_sign-digit.true);
    }

-- any other byte
pub loop-e-preserved : goal.loop-e-preserved
loop-e-preserved c =
    let p = c.loop-e-test.true in
    let v = c.loop-e.invariant in (
      none_before (opens_with 32) _ _ p v.0 (ne_eqb _ _ c.if-b-eq32.false),
      sign_before _ p v.1 v.2 (rw (← c.is_sign.ensures) c.if-is_sign-digit.false),
      rw (drop-sub-one _ _ p v.0.0) (sym c.is_digit-digit.ensures),
    )

-- neither
pub returns : goal.returns
unfolding last_place
returns c =
    let v = c.loop-e.invariant in
    let e : c.loop-e.e ≡ 0 = omega arith in record {
      space = sym (rw e at v.0.1);
      sign = sym (rw e at v.1.1);
    }
