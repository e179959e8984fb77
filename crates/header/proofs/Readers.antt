-- What the readers answer, from what one pass finds: `header_of_of_words`, `raw_of_of_words`. The raw reader does not test for a
-- `:`, because no number and no offset holds one (`no_colon_of_raw`).
-- Assumes nothing.
use Rattle.std.specs.Prelude.{Err, None, Ok, Option, Result, Some}
use mathlib.Core.Path.{◌≡◌, refl, sym, ◌∙◌}
use mathlib.Core.Bool.{Bool, true, false, cond, false≢true}
use mathlib.Core.List.{List, [], ◌∷◌}
use Prim.Native.Nat.{ℕ, ◌^◌}
use lib.IntN.{ℤ}
use lib.ListN.{get_or, drop}
use Rattle.text.specs.Bytes.{is_space, is_digit}
use Rattle.text.specs.Places.{run, has, part}
use Rattle.text.specs.Words.{words}
use Rattle.text.specs.Number.{signed_of}
use Rattle.text.proofs.Numbers.{fitted_signed-value}
use Rattle.text.proofs.Texts.{Lacking, not_has_of_words, no_colon_of_between, between_of_signed_of}
use Rattle.time.specs.declared.Refusal.{Refusal}
use Rattle.time.specs.declared.Refusal.TheVariants.{NotAscii, Form}
use Rattle.time.specs.declared.Time.{Time}
use Rattle.header.specs.Offset.{only_word, second_word_of, five_or_seven, fields_of, Field, Byte}
use Rattle.header.specs.Header.{number64, seconds_of, header_offset, header_time, header_of_words, header_of}
use Rattle.header.specs.Raw.{Limits, raw_time, raw_of_words, raw_of}
use Rattle.header.specs.Held.{first_word, WordsRead}
use Rattle.header.specs.declared.offset.Fields.{Fields}
use Rattle.header.specs.declared.walk.First.{First}
use Rattle.header.proofs.FirstWord.{number64-nil}
use Rattle.header.proofs.Unsigned.{fields_of-some, between_of_fields_of}
use Rattle.text.specs.declared.number.NumberError.TheVariants.{TooLarge, NoNumber}
use Rattle.text.specs.declared.number.NumberError.{NumberError}

-- ---- the refusal that `?` hands on
abbrev pub retold : Result First Refusal → Result Time Refusal
retold (Ok f) = Err NotAscii
retold (Err e) = Err e

-- ---- from the first word and the only other
seconds_of-nil : seconds_of [] ≡ (Err NoNumber)
unfolding seconds_of run signed_of
seconds_of-nil = refl

pub header_of_words_is : (ws : List (List ℕ)) → header_of_words ws ≡ header_time (seconds_of (get_or ws 0 [])) (header_offset (only_word (drop 1 ws)))
unfolding header_of_words
header_of_words_is [] = rw seconds_of-nil
header_of_words_is (w ∷ ws) = refl

pub raw_of_words_is : (l : Limits) (ws : List (List ℕ)) → raw_of_words l ws ≡ raw_time l (number64 (get_or ws 0 [])) (fields_of Byte (only_word (drop 1 ws)))
unfolding raw_of_words
raw_of_words_is l [] = rw number64-nil
raw_of_words_is l (w ∷ ws) = refl

pub fields_of-nil : (by : Field) → fields_of by [] ≡ None
unfolding fields_of five_or_seven
fields_of-nil by = refl

pub header_offset-nil : header_offset [] ≡ None
unfolding header_offset is_digit
header_offset-nil = refl

-- ---- no number and no offset holds a `:`
no_colon_of_number64 : (w : List ℕ) (z : ℤ) → number64 w ≡ Ok z → has 58 w ≡ false
no_colon_of_number64 w z e = no_colon_of_between 43 w (between_of_signed_of w z (fitted_signed-value (2 ^ 63) (signed_of w) z e))

lacking : (ws : List (List ℕ)) (z : ℤ) (f : Fields) → number64 (get_or ws 0 []) ≡ Ok z → fields_of Byte (only_word (drop 1 ws)) ≡ Some f → Lacking 58 ws
lacking [] z f n p = tt
lacking (w ∷ []) z f n p = (no_colon_of_number64 w z n, tt)
lacking (w ∷ v ∷ []) z f n p = (no_colon_of_number64 w z n, (no_colon_of_between 43 v (between_of_fields_of v f p), tt))
lacking (w ∷ v ∷ u ∷ ws) z f n p = absurd (fields_of-some [] f p (fields_of-nil Byte))

pub no_colon_of_raw : (s : List ℕ) (z : ℤ) (f : Fields) → number64 (first_word s) ≡ Ok z → fields_of Byte (second_word_of s) ≡ Some f → has 58 s ≡ false
unfolding is_space
no_colon_of_raw s z f n p = not_has_of_words 58 is_space refl s (lacking (words is_space s) z f n p)

-- so if there is one, raw has no number or no offset
raw_time-None : (l : Limits) (i : Result ℤ NumberError) (p : Option Fields) → ((z : ℤ) (f : Fields) → i ≡ Ok z → p ≡ Some f → ⊥) → raw_time l i p ≡ raw_time l i None
raw_time-None l (Ok z) (Some f) never = absurd (never z f refl refl)
raw_time-None l (Ok z) None never = refl
raw_time-None l (Err TooLarge) p never = refl
raw_time-None l (Err NoNumber) p never = refl

raw_time_of_colon : (l : Limits) (s : List ℕ) (colon : Bool) → colon ≡ has 58 s
    → raw_time l (number64 (first_word s)) (fields_of Byte (second_word_of s)) ≡ raw_time l (number64 (first_word s)) (fields_of Byte (cond colon [] (second_word_of s)))
raw_time_of_colon l s true h = rw (fields_of-nil Byte) (raw_time-None l _ _ (λ z f n p. false≢true (sym (no_colon_of_raw s z f n p) ∙ sym h)))
raw_time_of_colon l s false h = refl

-- ---- from what one pass finds
module _ (s : List ℕ) (f : First) (w : WordsRead s (Some f)) where
  pub header_of_of_colon : f.colon ≡ true → header_of s ≡ Err Form
  unfolding header_of
  header_of_of_colon e = rw (w.0, sym w.1.colon_is ∙ e)

  pub header_of_of_words : f.colon ≡ false → header_of s ≡ header_time f.number (header_offset (part s f.offset_word))
  unfolding header_of
  header_of_of_words e = rw (w.0, sym w.1.colon_is ∙ e, w.1.number_is, w.1.offset_is, e) (header_of_words_is (words is_space s))

  pub raw_of_of_words : (l : Limits) → raw_of l s ≡ raw_time l (cond f.whole f.number (Err NoNumber)) (fields_of Byte (part s f.offset_word))
  unfolding raw_of
  raw_of_of_words l = rw (w.0, w.1.whole_is, w.1.offset_is) (raw_of_words_is l (words is_space s) ∙ raw_time_of_colon l s f.colon w.1.colon_is)
