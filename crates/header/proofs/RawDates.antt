-- What a raw reader means, within any limits: it accepts exactly the raw dates (`raw_accepts`, `raw_accepts_only`); it refuses
-- a text with a byte of 128 or more by 1 (`raw-not-ascii`), exactly the texts whose first word is too large by 11
-- (`raw_too_large`), and every other text by 2 (`raw_refuses`). Let m allow all that l allows: then whatever is accepted within l is
-- answered alike within m (`raw_within`).
-- Assumes nothing.
use Rattle.std.specs.Prelude.{Err, None, Ok, Option, Result, Some, ℤ}
use mathlib.Core.Path.{◌≡◌, refl, sym, ap, ◌∙◌}
use mathlib.Core.Bool.{true, false}
use mathlib.Core.List.{List, [], ◌∷◌}
use mathlib.Core.Logic.{◌↔◌}
use Prim.Native.Nat.{ℕ}
use native.Mathlib.Omega.{arith}
use lib.ListN.{get_or, drop}
use Rattle.text.specs.Bytes.{is_space, ascii}
use Rattle.text.specs.Words.{words}
use Rattle.text.proofs.Lists.{by_test}
use Rattle.time.specs.Answers.{time_marked, answer_number}
use Rattle.time.specs.declared.Time.{Time}
use Rattle.time.specs.declared.Refusal.TheVariants.{NotAscii, Form, TooLarge as NumberTooLarge}
use Rattle.header.specs.Offset.{only_word, second_word_of, fields_of, offset_of, has_mark, read_time, Byte}
use Rattle.header.specs.Header.{number64}
use Rattle.header.specs.Raw.{Limits, allows, raw_time, raw_of_words, raw_of}
use Rattle.header.specs.Held.{first_word}
use Rattle.header.specs.Theorems.{RawDate, RawTooLarge, Within}
use Rattle.header.specs.declared.offset.Fields.{Fields}
use Rattle.header.proofs.Unsigned.{fields_of-some}
use Rattle.header.proofs.Readers.{fields_of-nil, raw_of_words_is}
use Rattle.header.proofs.Beyond.{number64_too_large}
use Rattle.text.specs.declared.number.NumberError.TheVariants.{TooLarge, NoNumber}
use Rattle.text.specs.declared.number.NumberError.{NumberError}

-- ---- what is accepted
pub raw_accepts : (l : Limits) (s : List ℕ) (t : Time) → RawDate l s t → raw_of l s ≡ Ok t
unfolding raw_of raw_of_words
raw_accepts l s t d =
    rw (d.ascii_is, d.words_are, d.number_is, d.fields_are, d.allowed) (λ i. Ok (time_marked t.seconds (d.offset_is i) (d.mark_is i)))

-- a number and fields that are accepted
record Accepted (l : Limits) (i : Result ℤ NumberError) (p : Option Fields) (t : Time) : Type 0 where
  number : i ≡ Ok t.seconds
  fields : Fields
  parsed : p ≡ Some fields
  allowed : allows l fields ≡ true
  offset_is : offset_of fields ≡ t.offset
  mark_is : has_mark fields ≡ t.mark

accepted : (l : Limits) (i : Result ℤ NumberError) (p : Option Fields) (t : Time) → raw_time l i p ≡ Ok t → Accepted l i p t
accepted l (Ok z) (Some f) t e =
    by_test (allows l f)
    (λ a.
    let k : Ok (read_time z f) ≡ Ok t = rw a at e in
    let same : read_time z f ≡ t = cc in
    record {
      number = ap (λ (u : Time). Ok u.seconds) same;
      fields = f;
      parsed = refl;
      allowed = a;
      offset_is = ap (λ (u : Time). u.offset) same;
      mark_is = ap (λ (u : Time). u.mark) same;
    })
    (λ a. let k = rw a at e in let q : ◌≡◌ {A = ℕ} 0 1 = cc in absurd (omega arith))
accepted l (Ok z) None t e = let q : ◌≡◌ {A = ℕ} 0 1 = cc in absurd (omega arith)
accepted l (Err TooLarge) p t e = let q : ◌≡◌ {A = ℕ} 0 1 = cc in absurd (omega arith)
accepted l (Err NoNumber) p t e = let q : ◌≡◌ {A = ℕ} 0 1 = cc in absurd (omega arith)

-- there are two words: the empty text, which stands for any other number of words, is no offset
two-words : (l : Limits) (s : List ℕ) (t : Time) (ws : List (List ℕ)) → ascii s ≡ true → words is_space s ≡ ws
    → Accepted l (number64 (get_or ws 0 [])) (fields_of Byte (only_word (drop 1 ws))) t → RawDate l s t
two-words l s t [] a e r = absurd (fields_of-some [] r.fields r.parsed (fields_of-nil Byte))
two-words l s t (w ∷ []) a e r = absurd (fields_of-some [] r.fields r.parsed (fields_of-nil Byte))
two-words l s t (w ∷ v ∷ []) a e r =
    record {
      ascii_is = a;
      first = w;
      second = v;
      fields = r.fields;
      words_are = e;
      number_is = r.number;
      fields_are = r.parsed;
      allowed = r.allowed;
      offset_is = r.offset_is;
      mark_is = r.mark_is;
    }
two-words l s t (w ∷ v ∷ u ∷ ws) a e r = absurd (fields_of-some [] r.fields r.parsed (fields_of-nil Byte))

pub raw_accepts_only : (l : Limits) (s : List ℕ) (t : Time) → raw_of l s ≡ Ok t → RawDate l s t
unfolding raw_of
raw_accepts_only l s t e =
    by_test (ascii s)
    (λ a. two-words l s t (words is_space s) a refl (accepted l _ _ t (sym (raw_of_words_is l (words is_space s)) ∙ rw a at e)))
    (λ a. let k = rw a at e in let q : ◌≡◌ {A = ℕ} 0 1 = cc in absurd (omega arith))

-- ---- the answer to an ASCII text is a time, 2 or 11
module _ {A : Type 0} (l : Limits) where
  raw_time-cases : (i : Result ℤ NumberError) (p : Option Fields) → ((t : Time) → raw_time l i p ≡ Ok t → A) → (raw_time l i p ≡ Err Form → A) → (raw_time l i p ≡ Err NumberTooLarge → A) → A
  raw_time-cases (Ok z) (Some f) time form large = by_test (allows l f) (λ a. time (read_time z f) (rw a)) (λ a. form (rw a))
  raw_time-cases (Ok z) None time form large = form refl
  raw_time-cases (Err TooLarge) p time form large = large refl
  raw_time-cases (Err NoNumber) p time form large = form refl

  pub raw_cases : (s : List ℕ) → ascii s ≡ true → ((t : Time) → raw_of l s ≡ Ok t → A) → (raw_of l s ≡ Err Form → A) → (raw_of l s ≡ Err NumberTooLarge → A) → A
  unfolding raw_of
  raw_cases s a time form large = raw_time-cases (number64 (first_word s)) (fields_of Byte (second_word_of s)) (λ t e. time t (is ∙ e)) (λ e. form (is ∙ e)) (λ e. large (is ∙ e))
    where
      is : raw_of l s ≡ raw_time l (number64 (first_word s)) (fields_of Byte (second_word_of s))
      is = rw a (raw_of_words_is l (words is_space s))

-- ---- what is refused
pub raw-not-ascii : (l : Limits) (s : List ℕ) → ascii s ≡ false → raw_of l s ≡ Err NotAscii
unfolding raw_of
raw-not-ascii l s a = rw a

-- by 11: whether the number is too large decides, whatever follows it
too_large_only : (l : Limits) (i : Result ℤ NumberError) (p : Option Fields) → raw_time l i p ≡ Err NumberTooLarge → i ≡ (Err TooLarge)
too_large_only l (Ok z) (Some f) e = absurd (by_test (allows l f) (λ a. omega (arith, ap answer_number (rw a at e))) (λ a. omega (arith, ap answer_number (rw a at e))))
too_large_only l (Ok z) None e = absurd (omega (arith, ap answer_number e))
too_large_only l (Err TooLarge) p e = refl
too_large_only l (Err NoNumber) p e = absurd (omega (arith, ap answer_number e))

first_too_large : (l : Limits) (s : List ℕ) (ws : List (List ℕ)) → ascii s ≡ true → words is_space s ≡ ws → raw_of_words l ws ≡ Err NumberTooLarge → RawTooLarge s
unfolding raw_of_words
first_too_large l s [] a e r = absurd (omega (arith, ap answer_number r))
first_too_large l s (w ∷ ws) a e r =
    record { ascii_is = a; first = w; others = ws; words_are = e; too_large = (number64_too_large w).0 (too_large_only l (number64 w) _ r) }

pub raw_too_large : (l : Limits) (s : List ℕ) → (raw_of l s ≡ Err NumberTooLarge) ↔ RawTooLarge s
unfolding raw_of raw_of_words
raw_too_large l s = (
  λ e.
      by_test (ascii s) (λ a. first_too_large l s (words is_space s) a refl (rw a at e))
      (λ a. absurd (omega (arith, ap answer_number (rw a at e)))),
  λ b. rw (b.ascii_is, b.words_are, (number64_too_large b.first).1 b.too_large),
)

-- by 2
pub raw_refuses : (l : Limits) (s : List ℕ) → ascii s ≡ true → ((t : Time) → RawDate l s t → ⊥) → (RawTooLarge s → ⊥) → raw_of l s ≡ Err Form
raw_refuses l s a never small = raw_cases l s a (λ t e. absurd (never t (raw_accepts_only l s t e))) (λ e. e) (λ e. absurd (small ((raw_too_large l s).0 e)))

-- ---- limits within others
pub raw_within : (l m : Limits) → Within l m → (s : List ℕ) (t : Time) → raw_of l s ≡ Ok t → raw_of m s ≡ Ok t
raw_within l m w s t e =
    let d = raw_accepts_only l s t e in
    raw_accepts m s t
    (record {
      ascii_is = d.ascii_is;
      first = d.first;
      second = d.second;
      fields = d.fields;
      words_are = d.words_are;
      number_is = d.number_is;
      fields_are = d.fields_are;
      allowed = w d.fields d.allowed;
      offset_is = d.offset_is;
      mark_is = d.mark_is;
    })
