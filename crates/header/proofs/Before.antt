-- Headers and raw dates answer as they did before there was an 11, but that some texts that were 2 are 11 (RULES 12.7):
-- `header_as_before`, `raw_as_before`. So the same texts are read, as the same times (`header_reads_as_before`,
-- `raw_reads_as_before`). The readers as they were are in this file alone: a number that is too large was no number.
-- Assumes nothing.
use Rattle.std.specs.Prelude.{Err, None, Ok, Option, Result, Some, ℤ}
use mathlib.Core.Path.{◌≡◌, refl, sym, ◌∙◌}
use mathlib.Core.Bool.{cond}
use mathlib.Core.List.{List, [], ◌∷◌}
use mathlib.Core.Logic.{◌↔◌, inl, inr}
use Prim.Native.Char.{code}
use Prim.Native.Nat.{ℕ, ◌^◌}
use lib.IntN.{pos}
use lib.ListN.{get_or}
use Rattle.text.specs.Bytes.{is_space, is_digit, is_sign, ascii}
use Rattle.text.specs.Places.{has, leading}
use Rattle.text.specs.Words.{words}
use Rattle.text.specs.Number.{signed_of, fit_signed}
use Rattle.std.specs.Result.{result_ok}
use Rattle.text.proofs.Lists.{by_test}
use Rattle.text.proofs.Digits.{leading_of_is_sign}
use Rattle.time.specs.Answers.{time_at}
use Rattle.time.specs.Theorems.{AsBefore}
use Rattle.time.specs.declared.Time.{Time as TimeValue}
use Rattle.time.specs.declared.Refusal.TheVariants.{NotAscii, Form}
use Rattle.time.proofs.Before.{read_as_before}
use Rattle.header.specs.Offset.{only_word, fields_of, read_time, Byte}
use Rattle.header.specs.Header.{number64, number_or, seconds_of, header_offset, header_time, header_of_words, header_of}
use Rattle.header.specs.Raw.{Limits, allows, raw_time, raw_of_words, raw_of}
use Rattle.header.proofs.FirstWord.{number64-nil, seconds_of_of_digits}
use Rattle.text.specs.declared.number.NumberError.TheVariants.{TooLarge, NoNumber}
use Rattle.header.specs.declared.offset.Fields.{Fields}
use Rattle.text.specs.declared.number.NumberError.{NumberError}
use Rattle.time.specs.declared.Refusal.{Refusal}
use Rattle.time.specs.declared.Time.{Time}

-- ---- the readers as they were
abbrev number64_was : List ℕ → Option ℤ
number64_was w = fit_signed (2 ^ 63) (signed_of w)

abbrev number_or_was : Option ℤ → Option ℤ → Option ℤ
number_or_was (Some z) other = Some z
number_or_was None other = other

seconds_was : List ℕ → Option ℤ
seconds_was w = number_or_was (number64_was w) (number64_was (leading is_digit w))

abbrev header_time_was : Option ℤ → Option Fields → Result Time Refusal
header_time_was (Some s) (Some f) = Ok (read_time s f)
header_time_was (Some s) None = Ok (time_at s (pos 0))
header_time_was None p = Err Form

header_of_words_was : List (List ℕ) → Result Time Refusal
header_of_words_was [] = Err Form
header_of_words_was (w ∷ ws) = header_time_was (seconds_was w) (header_offset (only_word ws))

pub header_was : List ℕ → Result Time Refusal
header_was s = cond (ascii s) (cond (has (code ":") s) (Err Form) (header_of_words_was (words is_space s))) (Err NotAscii)

abbrev raw_time_was : Limits → Option ℤ → Option Fields → Result Time Refusal
raw_time_was l (Some s) (Some f) = cond (allows l f) (Ok (read_time s f)) (Err Form)
raw_time_was l (Some s) None = Err Form
raw_time_was l None p = Err Form

raw_of_words_was : Limits → List (List ℕ) → Result Time Refusal
raw_of_words_was l [] = Err Form
raw_of_words_was l (w ∷ ws) = raw_time_was l (number64_was w) (fields_of Byte (only_word ws))

pub raw_was : Limits → List ℕ → Result Time Refusal
raw_was l s = cond (ascii s) (raw_of_words_was l (words is_space s)) (Err NotAscii)

-- ---- headers
header_time_as_before : (i : Result ℤ NumberError) (p : Option Fields) → AsBefore (header_time_was (result_ok i) p) (header_time i p)
header_time_as_before (Ok z) (Some f) = inl refl
header_time_as_before (Ok z) None = inl refl
header_time_as_before (Err TooLarge) p = inr (refl, refl)
header_time_as_before (Err NoNumber) p = inl refl

-- where the first word is too large, its leading digits are, or there are none
seconds_was_is : (w : List ℕ) → seconds_was w ≡ result_ok (seconds_of w)
unfolding seconds_was seconds_of fit_signed
seconds_was_is w = go (number64 w) refl
  where
    go : (x : Result ℤ NumberError) → number64 w ≡ x → number_or_was (result_ok x) (result_ok (number64 (leading is_digit w))) ≡ result_ok (number_or x (number64 (leading is_digit w)))
    go (Ok z) k = refl
    go (Err TooLarge) k =
        by_test (is_sign (get_or w 0 0)) (λ e. rw (leading_of_is_sign w e, number64-nil))
        (λ e. let d : number64 (leading is_digit w) ≡ (Err TooLarge) = sym (seconds_of_of_digits w e) ∙ rw k in rw d)
    go (Err NoNumber) k = refl

header_of_words_as_before : (ws : List (List ℕ)) → AsBefore (header_of_words_was ws) (header_of_words ws)
unfolding header_of_words_was header_of_words
header_of_words_as_before [] = inl refl
header_of_words_as_before (w ∷ ws) = rw (seconds_was_is w) (header_time_as_before (seconds_of w) (header_offset (only_word ws)))

pub header_as_before : (s : List ℕ) → AsBefore (header_was s) (header_of s)
unfolding header_was header_of
header_as_before s =
    by_test (ascii s)
    (λ a. by_test (has (code ":") s) (λ c. rw (a, c) (inl refl)) (λ c. rw (a, c) (header_of_words_as_before (words is_space s))))
    (λ a. rw a (inl refl))

pub header_reads_as_before : (s : List ℕ) (t : TimeValue) → (header_of s ≡ Ok t) ↔ (header_was s ≡ Ok t)
header_reads_as_before s t = read_as_before (header_was s) (header_of s) (header_as_before s) t

-- ---- raw dates
raw_time_as_before : (l : Limits) (i : Result ℤ NumberError) (p : Option Fields) → AsBefore (raw_time_was l (result_ok i) p) (raw_time l i p)
raw_time_as_before l (Ok z) (Some f) = inl refl
raw_time_as_before l (Ok z) None = inl refl
raw_time_as_before l (Err TooLarge) p = inr (refl, refl)
raw_time_as_before l (Err NoNumber) p = inl refl

raw_of_words_as_before : (l : Limits) (ws : List (List ℕ)) → AsBefore (raw_of_words_was l ws) (raw_of_words l ws)
unfolding raw_of_words_was raw_of_words fit_signed
raw_of_words_as_before l [] = inl refl
raw_of_words_as_before l (w ∷ ws) = raw_time_as_before l (number64 w) (fields_of Byte (only_word ws))

pub raw_as_before : (l : Limits) (s : List ℕ) → AsBefore (raw_was l s) (raw_of l s)
unfolding raw_was raw_of
raw_as_before l s = by_test (ascii s) (λ a. rw a (raw_of_words_as_before l (words is_space s))) (λ a. rw a (inl refl))

pub raw_reads_as_before : (l : Limits) (s : List ℕ) (t : TimeValue) → (raw_of l s ≡ Ok t) ↔ (raw_was l s ≡ Ok t)
raw_reads_as_before l s t = read_as_before (raw_was l s) (raw_of l s) (raw_as_before l s) t
