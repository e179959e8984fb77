-- The number of the first word, from the number at its front. Both are the same if white space or the end of the text follows
-- (`number64-first_word`). If other bytes follow, it is the number of a header only without a sign (`seconds_of-first_word`).
-- Assumes nothing.
use Rattle.std.specs.Prelude.{Err, Ok, Result, ℤ}
use mathlib.Core.Path.{◌≡◌, refl, sym, ap, ◌∙◌}
use mathlib.Core.Bool.{Bool, true, false, cond, not, ◌||◌}
use mathlib.Core.List.{List, []}
use Prim.Native.Nat.{ℕ, suc, ◌+◌, ◌≤◌, ◌<◌}
use native.Mathlib.Omega.{arith}
use native.Mathlib.Nat.{add-sub_cancel_left}
use borrow.Author.Tests.{eqb-true, eqb-false, ne_eqb, leb-true, leb-false}
use lib.Dec.{eqb, leb}
use lib.ListN.{length, take, drop, get_or, drop_of_length-le}
use lib.Seq.{take_all, take-take, length-take-le, drop-drop}
use Rattle.text.specs.Bytes.{is_space, is_digit, is_sign}
use Rattle.text.specs.Places.{run, leading, no, past}
use Rattle.text.specs.Number.{signed_of, numeral}
use Rattle.text.specs.declared.number.LeadingInteger.{LeadingInteger}
use Rattle.text.proofs.Lists.{by_test, drop-cons-add-one}
use Rattle.text.proofs.Runs.{run-le-length, run_drop}
use Rattle.text.proofs.Taking.{get_or-words-zero}
use Rattle.text.proofs.Numbers.{signed_of_of_numeral-lt, numeral_of_digits, numeral-le-run, numeral_leading, is_sign-leading}
use Rattle.text.proofs.Digits.{leading_of_is_sign}
use Rattle.text.proofs.Plain.{no_space_of_is_sign, no_space_of_is_digit}
use Rattle.header.specs.Header.{number64, number_or, seconds_of}
use Rattle.header.specs.Held.{ends_at, first_word, LeadsWithNumber}
use Rattle.text.specs.declared.number.NumberError.TheVariants.{TooLarge, NoNumber}
use Rattle.text.specs.declared.number.NumberError.{NumberError}

number_or-NoNumber : (i : Result ℤ NumberError) → number_or i (Err NoNumber) ≡ i
number_or-NoNumber (Ok z) = refl
number_or-NoNumber (Err TooLarge) = refl
number_or-NoNumber (Err NoNumber) = refl

number_or-self : (i : Result ℤ NumberError) → number_or i i ≡ i
number_or-self (Ok z) = refl
number_or-self (Err TooLarge) = refl
number_or-self (Err NoNumber) = refl

pub number64-nil : number64 [] ≡ (Err NoNumber)
unfolding signed_of
number64-nil = refl

-- ---- where a word ends
module _ (s : List ℕ) (at : ℕ) where
  pub ends_at_of_lt : at < length s → ends_at s at ≡ is_space (get_or s at 0)
  unfolding ends_at run
  ends_at_of_lt h = rw (drop-cons-add-one s at h) (by_test (is_space (get_or s at 0)) (λ e. rw e) (λ e. rw e (ne_eqb (suc (run (no is_space) (drop (at + 1) s))) 0 (λ k. omega arith))))

  pub ends_at_of_le : length s ≤ at → ends_at s at ≡ true
  unfolding ends_at run
  ends_at_of_le h = rw (drop_of_length-le s h)

-- ---- of any word
module _ (w : List ℕ) where
  abbrev opening : Result ℤ NumberError
  opening = number64 (take (numeral w) w)

  abbrev Wholly : Bool → Type 0
  Wholly true = length w ≤ numeral w
  Wholly false = numeral w < length w

  number64_by : (whole : Bool) → Wholly whole → number64 w ≡ cond whole opening (Err NoNumber)
  number64_by true h = sym (ap number64 (take_all (numeral w) w h))
  number64_by false h = rw (signed_of_of_numeral-lt w h)

  seconds_of_by : (whole : Bool) → Wholly whole → seconds_of w ≡ cond (whole || not (is_sign (get_or w 0 0))) opening (Err NoNumber)
  unfolding seconds_of
  seconds_of_by whole h =
      by_test (is_sign (get_or w 0 0))
      (λ e. rw (leading_of_is_sign w e, number64-nil, number_or-NoNumber (number64 w), e) (signed whole h))
      (λ e. rw (← numeral_of_digits w e, number64_by whole h, e) (unsigned whole))
    where
      signed : (whole : Bool) → Wholly whole → number64 w ≡ cond (whole || false) opening (Err NoNumber)
      signed true k = number64_by true k
      signed false k = number64_by false k

      unsigned : (whole : Bool) → number_or (cond whole opening (Err NoNumber)) opening ≡ cond (whole || true) opening (Err NoNumber)
      unsigned true = number_or-self opening
      unsigned false = refl

  -- without a sign the leading digits decide, whatever follows them
  pub seconds_of_of_digits : is_sign (get_or w 0 0) ≡ false → seconds_of w ≡ number64 (leading is_digit w)
  seconds_of_of_digits e =
      by_test (leb (length w) (numeral w)) (λ k. seconds_of_by true (leb-true _ _ k) ∙ digits)
      (λ k. seconds_of_by false (leb-false _ _ k) ∙ rw e digits)
    where
      digits : opening ≡ number64 (leading is_digit w)
      digits = rw (numeral_of_digits w e)

-- ---- of the first word
module _ (s : List ℕ) (r : LeadingInteger) (l : LeadsWithNumber s r) where
  abbrev first : ℕ
  first = past is_space s 0

  abbrev word : List ℕ
  word = leading (no is_space) (drop first s)

  first_word_is : first_word s ≡ word
  unfolding past
  first_word_is = get_or-words-zero is_space s 0 ∙ rw (add-sub_cancel_left (past is_space s 0))

  le-run : numeral (drop first s) ≤ run (no is_space) (drop first s)
  le-run = numeral-le-run (no is_space) no_space_of_is_sign no_space_of_is_digit (drop first s)

  numeral_is : numeral word ≡ numeral (drop first s)
  numeral_is = numeral_leading (no is_space) no_space_of_is_sign no_space_of_is_digit (drop first s)

  opening_is : opening word ≡ r.number
  opening_is = ap number64 (rw numeral_is (take-take _ _ (drop first s) le-run)) ∙ sym l.number_is

  signed_is : is_sign (get_or word 0 0) ≡ r.signed
  signed_is = is_sign-leading (no is_space) no_space_of_is_sign no_space_of_is_digit (drop first s) ∙ sym l.signed_is

  abbrev behind : ℕ
  behind = run (no is_space) (drop r.end s)

  wholly : Wholly word (eqb behind 0)
  wholly =
      let n : length word ≡ run (no is_space) (drop first s) = length-take-le _ (drop first s) (run-le-length (no is_space) (drop first s)) in
      let m : numeral word ≡ numeral (drop first s) = numeral_is in
      let k : numeral (drop first s) + behind ≡ run (no is_space) (drop first s) = rw (l.end_is, ← drop-drop (numeral (drop first s)) first s) (run_drop (no is_space) (numeral (drop first s)) (drop first s) le-run) in
      by_test (eqb behind 0) (λ e. rw e (omega (arith, eqb-true behind 0 e))) (λ e. rw e (omega (arith, eqb-false behind 0 e)))

  pub number64-first_word : number64 (first_word s) ≡ cond (ends_at s r.end) r.number (Err NoNumber)
  unfolding ends_at
  number64-first_word = rw (first_word_is, ← opening_is) (number64_by word (eqb behind 0) wholly)

  pub seconds_of-first_word : seconds_of (first_word s) ≡ cond (ends_at s r.end || not r.signed) r.number (Err NoNumber)
  unfolding ends_at
  seconds_of-first_word = rw (first_word_is, ← opening_is, ← signed_is) (seconds_of_by word (eqb behind 0) wholly)
