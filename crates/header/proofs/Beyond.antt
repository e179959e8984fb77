-- When a header's number is too large (RULES 5.9): a word is too large for 64 bits exactly if it is a number but for its value
-- (`number64_too_large`); a header is refused by 11 exactly if its first word, or else the leading digits of that, are too large
-- (`header_too_large`).
-- Assumes nothing.
use Rattle.std.specs.Prelude.{Err, None, Ok, Option, Result, Some, ℤ}
use mathlib.Core.Path.{◌≡◌, refl, sym, ap, ◌∙◌}
use mathlib.Core.Bool.{true, false, ◌&&◌}
use mathlib.Core.List.{List, [], ◌∷◌}
use mathlib.Core.Logic.{◌↔◌, ◌⊎◌, inl, inr, ⊎_elim}
use Prim.Native.Nat.{ℕ, ◌^◌}
use native.Mathlib.Omega.{arith}
use lib.IntN.{pos, neg_ℤ}
use lib.ListN.{get_or}
use lib.Signed.{le_z, lt_z}
use Rattle.text.specs.Bytes.{is_space, is_digit, is_sign, ascii}
use Rattle.text.specs.Places.{has, leading}
use Rattle.text.specs.Words.{words}
use Rattle.text.specs.Number.{signed_of, fitted_signed}
use Rattle.text.proofs.Lists.{by_test}
use Rattle.text.proofs.Digits.{leading_of_is_sign}
use Rattle.text.proofs.Signed.{In_of_tests, tests_of_In}
use Rattle.time.specs.Answers.{answer_number}
use Rattle.time.specs.declared.Refusal.TheVariants.{TooLarge as NumberTooLarge}
use Rattle.header.specs.Offset.{only_word}
use Rattle.header.specs.Header.{number64, number_or, seconds_of, header_offset, header_time, header_of_words, header_of}
use Rattle.header.specs.Theorems.{Beyond64, HeaderTooLarge}
use Rattle.header.proofs.FirstWord.{number64-nil, seconds_of_of_digits}
use Rattle.text.specs.declared.number.NumberError.TheVariants.{TooLarge, NoNumber}
use Rattle.header.specs.declared.offset.Fields.{Fields}
use Rattle.text.specs.declared.number.NumberError.{NumberError}

-- ---- a word
pub number64_too_large : (w : List ℕ) → (number64 w ≡ (Err TooLarge)) ↔ Beyond64 w
number64_too_large w = (beyond (signed_of w) refl, too_large)
  where
    beyond : (x : Option ℤ) → signed_of w ≡ x → fitted_signed (2 ^ 63) x ≡ (Err TooLarge) → Beyond64 w
    beyond (Some z) e t =
        record {
          value = z;
          value_is = e;
          beyond = λ r. let k : Ok z ≡ (Err TooLarge) = rw (tests_of_In (2 ^ 63) z r) at t in let q : ◌≡◌ {A = ℕ} 0 1 = cc in omega arith;
        }
    beyond None e t = let q : ◌≡◌ {A = ℕ} 0 1 = cc in absurd (omega arith)

    too_large : Beyond64 w → number64 w ≡ (Err TooLarge)
    too_large b =
        rw b.value_is
        (by_test (le_z (neg_ℤ (pos (2 ^ 63))) b.value && lt_z b.value (pos (2 ^ 63))) (λ e. absurd (b.beyond (In_of_tests (2 ^ 63) b.value e)))
        (λ e. rw e))

-- a word, or else its leading digits
seconds_of-too_large : (w : List ℕ) → (seconds_of w ≡ (Err TooLarge)) ↔ (Beyond64 w ⊎ Beyond64 (leading is_digit w))
unfolding seconds_of
seconds_of-too_large w = (λ e. either (number64 w) refl e, ⊎_elim (λ b. rw ((number64_too_large w).1 b)) (λ b. unsigned b ∙ (number64_too_large (leading is_digit w)).1 b))
  where
    either : (x : Result ℤ NumberError) → number64 w ≡ x → number_or x (number64 (leading is_digit w)) ≡ (Err TooLarge) → Beyond64 w ⊎ Beyond64 (leading is_digit w)
    either (Ok z) k e = let q : ◌≡◌ {A = ℕ} 0 1 = cc in absurd (omega arith)
    either (Err TooLarge) k e = inl ((number64_too_large w).0 k)
    either (Err NoNumber) k e = inr ((number64_too_large (leading is_digit w)).0 e)

    -- behind a sign there are no leading digits
    unsigned : Beyond64 (leading is_digit w) → seconds_of w ≡ number64 (leading is_digit w)
    unsigned b =
        by_test (is_sign (get_or w 0 0))
        (λ e.
        let k : (Err NoNumber) ≡ (Err TooLarge) = sym number64-nil ∙ ap number64 (sym (leading_of_is_sign w e)) ∙ (number64_too_large (leading is_digit w)).1 b in
        let q : ◌≡◌ {A = ℕ} 0 1 = cc in
        absurd (omega arith))
        (λ e. seconds_of_of_digits w e)

-- ---- a header
header_time-too_large : (i : Result ℤ NumberError) (p : Option Fields) → header_time i p ≡ Err NumberTooLarge → i ≡ (Err TooLarge)
header_time-too_large (Ok z) (Some f) e = absurd (omega (arith, ap answer_number e))
header_time-too_large (Ok z) None e = absurd (omega (arith, ap answer_number e))
header_time-too_large (Err TooLarge) p e = refl
header_time-too_large (Err NoNumber) p e = absurd (omega (arith, ap answer_number e))

first_too_large : (s : List ℕ) (ws : List (List ℕ)) → ascii s ≡ true → has 58 s ≡ false → words is_space s ≡ ws → header_of_words ws ≡ Err NumberTooLarge → HeaderTooLarge s
unfolding header_of_words
first_too_large s [] a c e r = absurd (omega (arith, ap answer_number r))
first_too_large s (w ∷ ws) a c e r =
    record {
      ascii_is = a;
      no_colon = c;
      first = w;
      others = ws;
      words_are = e;
      too_large = (seconds_of-too_large w).0 (header_time-too_large (seconds_of w) (header_offset (only_word ws)) r);
    }

pub header_too_large : (s : List ℕ) → (header_of s ≡ Err NumberTooLarge) ↔ HeaderTooLarge s
unfolding header_of header_of_words
header_too_large s = (
  λ e.
      by_test (ascii s)
      (λ a.
      by_test (has 58 s) (λ c. absurd (omega (arith, ap answer_number (rw (a, c) at e))))
      (λ c. first_too_large s (words is_space s) a c refl (rw (a, c) at e)))
      (λ a. absurd (omega (arith, ap answer_number (rw a at e)))),
  λ b. rw (b.ascii_is, b.no_colon, b.words_are, (seconds_of-too_large b.first).1 b.too_large),
)
