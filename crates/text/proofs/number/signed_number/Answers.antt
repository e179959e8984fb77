-- `text::number::signed_number` meets its contract. Sign and digits up to the end of the text are the whole of it; with a byte after
-- them the whole is no number. Where they are no number, or one that is too large, the whole is no number either.
use mathlib.Core.Path.{sym, ap, ◌∙◌}
use mathlib.Core.List.{List}
use Prim.Native.Nat.{ℕ, ◌≤◌, ◌<◌}
use native.Mathlib.Omega.{arith}
use borrow.Author.Tests.{ltb-true, ltb-false}
use lib.Dec.{ltb}
use lib.ListN.{length}
use lib.Seq.{take_all}
use Rattle.text.specs.Number.{signed_of, fit_signed, half_of, numeral}
use Rattle.std.specs.Result.{result_ok}
use Rattle.text.proofs.Lists.{by_test}
use Rattle.text.proofs.Numbers.{signed_of_of_numeral-lt}
use Rattle.text.proofs.number.signed_number.Goals as goal

pub returns-in-Ok : goal.returns-in-Ok
unfolding fit_signed
returns-in-Ok c =
    let a = c.args in
    let h : length a.s.now ≤ numeral a.s.now = omega (arith, c.leading_integer-read.ensures.end_is, c.if-s-read.true) in
    c.ok.ensures.value ∙ ap result_ok c.leading_integer-read.ensures.number_is ∙ ap (λ (t : List ℕ). fit_signed (half_of a.width) (signed_of t)) (take_all _ _ h)

pub returns-in_default : goal.returns-in_default
unfolding fit_signed
returns-in_default c =
    let s = c.args.s.now in
    let h : numeral s < length s = omega (arith, c.leading_integer-read.ensures.end_is, c.if-s-read.false) in
    rw (signed_of_of_numeral-lt s h)

pub returns-in_default-2 : goal.returns-in_default-2
unfolding fit_signed
returns-in_default-2 c =
    let a = c.args in
    by_test (ltb (numeral a.s.now) (length a.s.now)) (λ t. rw (signed_of_of_numeral-lt a.s.now (ltb-true _ _ t)))
    (λ t. sym (ap result_ok c.in_default.is) ∙ ap result_ok c.leading_integer-read.ensures.number_is
    ∙ ap (λ (t : List ℕ). fit_signed (half_of a.width) (signed_of t)) (take_all _ _ (ltb-false _ _ t)))
