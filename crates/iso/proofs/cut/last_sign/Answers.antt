-- `iso::cut::last_sign` meets its contract. The invariant: from e on no sign has a digit after it, and `digit` says whether a digit
-- is at e.
use mathlib.Core.Path.{sym}
use Rattle.text.proofs.Lists.{drop-sub-one}
use Rattle.iso.proofs.Marks.{sign_here, sign_before}
use Rattle.iso.proofs.cut.last_sign.Goals as goal

-- a sign with a digit after it
pub returns-then-is_sign-digit : goal.returns-then-is_sign-digit
returns-then-is_sign-digit c =
    let v = c.loop-e.invariant in
    sign_here _ c.loop-e-test.true v.0 v.1 (rw (← c.is_sign.ensures) c.if-is_sign-digit.true)

-- any other byte
pub loop-e-preserved : goal.loop-e-preserved
loop-e-preserved c =
    let v = c.loop-e.invariant in
    let p = c.loop-e-test.true in
    (sign_before _ p v.0 v.1 (rw (← c.is_sign.ensures) c.if-is_sign-digit.false), rw (drop-sub-one _ _ p v.0.0) (sym c.is_digit-digit.ensures))
