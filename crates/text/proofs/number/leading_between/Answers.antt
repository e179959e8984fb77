-- `text::number::leading_between` meets its contract: after the sign, if there is one, the digits decide.
use Rattle.std.specs.Prelude.{Err, Result}
use mathlib.Core.Path.{◌≡◌, refl, sym, ap, ◌∙◌}
use mathlib.Core.Bool.{Bool, false, cond}
use mathlib.Core.List.{List, ◌∷◌}
use Prim.Native.Nat.{ℕ, ◌+◌, ◌≤◌, ◌<◌}
use native.Mathlib.Omega.{arith}
use borrow.Author.Tests.{ltb-true, ltb-false}
use borrow.Author.Rules.{rules}
use lib.Dec.{eqb}
use lib.ListN.{length, drop, get_or, drop_of_length-le}
use Rattle.text.specs.Bytes.{is_digit, is_sign}
use Rattle.text.specs.Places.{past, leading}
use Rattle.text.specs.Number.{digits_of, signed_of, fitted, numeral, LeadsWith}
use Rattle.text.specs.Held.{signed_by}
use Rattle.text.specs.declared.number.LeadingInteger.{LeadingInteger}
use Rattle.text.proofs.Lists.{by_test, drop-cons-add-one}
use Rattle.text.proofs.Numbers.{signed_by-numeral}
use Rattle.text.specs.declared.number.NumberError.TheVariants.{NoNumber}
use Rattle.text.specs.declared.number.NumberError.{NumberError}
use Rattle.text.proofs.number.leading_between.Goals as goal

-- nothing is left
LeadsWith-nil : (half : ℕ) (s : List ℕ) (at : ℕ) → length s ≤ at → LeadsWith half (drop at s) at (record { number = (Err NoNumber); end = at; signed = false })
unfolding numeral signed_of is_sign
LeadsWith-nil half s at h = rw (drop_of_length-le s h) (record { number_is = refl; end_is = omega arith; signed_is = refl })

-- where the digits start, and where they end
module _ (s : List ℕ) (at : ℕ) (h : at < length s) where
  abbrev byte : ℕ
  byte = get_or s at 0

  abbrev start : ℕ
  start = cond (is_sign byte) (at + 1) at

  left : drop start s ≡ cond (is_sign byte) (drop (at + 1) s) (byte ∷ drop (at + 1) s)
  left = by_test (is_sign byte) (λ e. rw e) (λ e. rw e (drop-cons-add-one s at h))

  end : past is_digit s start ≡ at + numeral (byte ∷ drop (at + 1) s)
  unfolding past numeral
  end = by_test (is_sign byte) (λ e. rw e (omega arith)) (λ e. rw (e, drop-cons-add-one s at h))

  LeadsWith-cons : (half : ℕ) → 0 < half → (n : Result ℕ NumberError) → n ≡ fitted half (digits_of (leading is_digit (drop start s))) → (r : LeadingInteger)
      → r.number ≡ signed_by half (eqb byte 45) n → r.end ≡ past is_digit s start → r.signed ≡ is_sign byte → LeadsWith half (drop at s) at r
  LeadsWith-cons half k n e r number_is end_is signed_is =
      rw (drop-cons-add-one s at h)
      (record {
        number_is = number_is ∙ signed_by-numeral half k byte (drop (at + 1) s) n (e ∙ ap (λ (t : List ℕ). fitted half (digits_of (leading is_digit t))) left);
        end_is = end_is ∙ end;
        signed_is = signed_is;
      })

pub returns-in_default : goal.returns-in_default
returns-in_default c = LeadsWith-nil _ _ _ (ltb-false _ _ (sym c.in_default.ensures.lookup.0))

pub returns : goal.returns
returns c =
    let a = c.args in
    let inside : a.from < length a.s.now = ltb-true _ _ (sym c.in-Some.ensures.lookup.0) in
    let b : c.in-Some.field-0.now ≡ get_or a.s.now a.from 0 = search rules in
    let signed = rw b at c.is_sign-signed.ensures in
    let from : c.past_sign.result ≡ start a.s.now a.from inside = c.past_sign.ensures ∙ ap (λ (t : Bool). cond t (a.from + 1) a.from) signed in
    LeadsWith-cons a.s.now a.from inside a.half c.requires.0 _ (rw from at c.leading_number-read.ensures.number_value) _ (rw b at c.with_sign.ensures) (rw from at c.leading_number-read.ensures.end_value) signed
