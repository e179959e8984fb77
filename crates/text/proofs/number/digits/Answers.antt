-- `text::number::digits` meets its contract. Digits up to the end of the text are the whole of it; with a byte after them the whole is
-- no number. Where the digits are no number, or one that is too large, the whole is no number either.
use Rattle.std.specs.Prelude.{None}
use mathlib.Core.Path.{◌≡◌, sym, ap, ◌∙◌}
use mathlib.Core.List.{List}
use Prim.Native.Nat.{ℕ, ◌<◌, ◌≤◌}
use native.Mathlib.Omega.{arith}
use borrow.Author.Tests.{ltb-true, ltb-false}
use lib.Dec.{ltb}
use lib.ListN.{length, drop, length-drop}
use lib.Seq.{take_all}
use Rattle.text.specs.Bytes.{is_digit}
use Rattle.text.specs.Places.{run, leading, past}
use Rattle.text.specs.Number.{digits_of, fit}
use Rattle.std.specs.Result.{result_ok}
use Rattle.text.proofs.Lists.{by_test}
use Rattle.text.proofs.Numbers.{digits_of_of_run-lt}
use Rattle.text.proofs.number.digits.Goals as goal

module _ (s : List ℕ) (from : ℕ) where
  digits_of_of_past-lt : past is_digit s from < length s → digits_of (drop from s) ≡ None
  unfolding past
  digits_of_of_past-lt h = digits_of_of_run-lt (drop from s) (omega (arith, length-drop from s))

  leading-of-past-le : length s ≤ past is_digit s from → leading is_digit (drop from s) ≡ drop from s
  unfolding past
  leading-of-past-le h =
      let k : length (drop from s) ≤ run is_digit (drop from s) = omega (arith, length-drop from s) in
      take_all _ _ k

pub returns-in-Ok : goal.returns-in-Ok
unfolding fit
returns-in-Ok c =
    let a = c.args in
    c.ok.ensures.value ∙ ap result_ok c.leading_number-read.ensures.number_value
    ∙ ap (λ (t : List ℕ). fit a.limit (digits_of t)) (leading-of-past-le _ a.from (rw c.leading_number-read.ensures.end_value at c.if-s-read.true))

pub returns-in_default : goal.returns-in_default
unfolding fit
returns-in_default c = rw (digits_of_of_past-lt _ _ (rw c.leading_number-read.ensures.end_value at c.if-s-read.false))

pub returns-in_default-2 : goal.returns-in_default-2
unfolding fit
returns-in_default-2 c =
    let a = c.args in
    by_test (ltb (past is_digit a.s.now a.from) (length a.s.now)) (λ t. rw (digits_of_of_past-lt a.s.now a.from (ltb-true _ _ t)))
    (λ t. sym (ap result_ok c.in_default.is) ∙ ap result_ok c.leading_number-read.ensures.number_value
    ∙ ap (λ (t : List ℕ). fit a.limit (digits_of t)) (leading-of-past-le _ a.from (ltb-false _ _ t)))
