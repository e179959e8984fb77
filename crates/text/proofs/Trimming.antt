-- Trimming. In order: the clause of `trim_end` from the end; a text that does not begin with white space still does not once its
-- end is trimmed; trimming a trimmed text changes nothing; a text that neither begins nor ends with white space; the words of a
-- trimmed text.
-- Assumes nothing.
use mathlib.Core.Path.{◌≡◌, refl, sym, ap, ◌∙◌}
use mathlib.Core.Bool.{Bool, true, false, cond}
use mathlib.Core.List.{List, [], ◌∷◌, ◌++◌, reverse, reverse-append, reverse-cons, reverse-reverse}
use Prim.Native.Nat.{ℕ, ◌≤◌, ◌<◌}
use native.Mathlib.Nat.{le_refl, zero-add}
use native.Mathlib.Omega.{arith}
use borrow.Author.Tests.{lt-leb}
use lib.ListN.{length, drop}
use Rattle.text.specs.Bytes.{is_space, is_alphanumeric}
use Rattle.text.specs.Places.{no, run, past}
use Rattle.text.specs.Trim.{trim_start, trim_end, trim}
use Rattle.text.specs.Words.{words}
use Rattle.text.proofs.Digits.{space_range}
use Rattle.text.proofs.Taking.{words-cons-separator, words-snoc-separator}
use Rattle.text.proofs.Lists.{by_test}

pub trim_end-snoc : (s : List ℕ) (b : ℕ) → trim_end (s ++ (b ∷ [])) ≡ cond (is_space b) (trim_end s) (s ++ (b ∷ []))
unfolding trim_end trim_start
trim_end-snoc s b = rw (reverse-append s (b ∷ [])) (go (is_space b))
  where
    go : (t : Bool) → reverse (cond t (trim_start (reverse s)) (b ∷ reverse s)) ≡ cond t (reverse (trim_start (reverse s))) (s ++ (b ∷ []))
    go true = refl
    go false = reverse-cons b (reverse s) ∙ rw reverse-reverse

-- what is left after the white space at the front
pub trim_start-past : (s : List ℕ) → trim_start s ≡ drop (past is_space s 0) s
unfolding trim_start run past
trim_start-past [] = refl
trim_start-past (b ∷ s) = by_test (is_space b) (λ e. rw (e, zero-add) (rw zero-add at (trim_start-past s))) (λ e. rw e)

length-trim_start-le : (s : List ℕ) → length (trim_start s) ≤ length s
unfolding trim_start
length-trim_start-le [] = le_refl 0
length-trim_start-le (b ∷ s) = by_test (is_space b) (λ e. rw e (omega (arith, length-trim_start-le s))) (λ e. rw e (le_refl _))

trim_start-trim_start : (s : List ℕ) → trim_start (trim_start s) ≡ trim_start s
unfolding trim_start
trim_start-trim_start [] = refl
trim_start-trim_start (b ∷ s) = by_test (is_space b) (λ e. rw e (trim_start-trim_start s)) (λ e. rw (e, e))

-- a text that begins with white space is not trimmed
not-trimmed : (b : ℕ) (s : List ℕ) → trim_start s ≡ b ∷ s → ⊥
not-trimmed b s h = omega (arith, length-trim_start-le s, ap length h)

-- a text with a trimmed start, without its last byte, still has one
trim_start_of_snoc : (s : List ℕ) (b : ℕ) → trim_start (s ++ (b ∷ [])) ≡ s ++ (b ∷ []) → trim_start s ≡ s
unfolding trim_start
trim_start_of_snoc [] b h = refl
trim_start_of_snoc (c ∷ s) b h = by_test (is_space c) (λ e. absurd (not-trimmed c (s ++ (b ∷ [])) (rw e at h))) (λ e. rw e)

-- the same without any number of bytes at the end
trim_start-reverse : (r : List ℕ) → trim_start (reverse r) ≡ reverse r → trim_start (reverse (trim_start r)) ≡ reverse (trim_start r)
unfolding trim_start
trim_start-reverse [] h = refl
trim_start-reverse (b ∷ r) h =
    by_test (is_space b) (λ e. rw e (trim_start-reverse r (trim_start_of_snoc (reverse r) b (rw reverse-cons at h)))) (λ e. rw e h)

trim_start-trim_end : (s : List ℕ) → trim_start s ≡ s → trim_start (trim_end s) ≡ trim_end s
unfolding trim_end
trim_start-trim_end s h = trim_start-reverse (reverse s) (rw reverse-reverse h)

trim_end-trim_end : (s : List ℕ) → trim_end (trim_end s) ≡ trim_end s
unfolding trim_end
trim_end-trim_end s = rw (reverse-reverse, trim_start-trim_start)

-- trimming a trimmed text changes nothing
pub trim_trim : (s : List ℕ) → trim (trim s) ≡ trim s
unfolding trim
trim_trim s = rw (trim_start-trim_end (trim_start s) (trim_start-trim_start s), trim_end-trim_end)

-- ---- a text that neither begins nor ends with white space
pub trim_of_ends : (b : ℕ) (s : List ℕ) (e : ℕ) → is_space b ≡ false → is_space e ≡ false → trim (b ∷ (s ++ (e ∷ []))) ≡ b ∷ (s ++ (e ∷ []))
unfolding trim trim_start
trim_of_ends b s e p q = rw p (trim_end-snoc (b ∷ s) e ∙ rw q)

-- ---- a trimmed text has the same words, whichever bytes separate them, if white space is among them
module _ (p : ℕ → Bool) (spaces : (b : ℕ) → is_space b ≡ true → p b ≡ true) where
  words-trim_start : (s : List ℕ) → words p (trim_start s) ≡ words p s
  unfolding trim_start
  words-trim_start [] = refl
  words-trim_start (b ∷ s) =
      by_test (is_space b) (λ e. rw e (words-trim_start s ∙ sym (words-cons-separator p b s (spaces b e)))) (λ e. rw e)

  words-reverse-trim_start : (r : List ℕ) → words p (reverse (trim_start r)) ≡ words p (reverse r)
  unfolding trim_start
  words-reverse-trim_start [] = refl
  words-reverse-trim_start (b ∷ r) =
      by_test (is_space b)
      (λ e. rw e (words-reverse-trim_start r ∙ sym (words-snoc-separator p b (reverse r) (spaces b e)) ∙ ap (words p) (sym (reverse-cons b r))))
      (λ e. rw e)

  pub words_trim : (s : List ℕ) → words p (trim s) ≡ words p s
  unfolding trim trim_end
  words_trim s = words-reverse-trim_start (reverse (trim_start s)) ∙ ap (words p) (reverse-reverse (trim_start s)) ∙ words-trim_start s

-- the two classes that separate words are such: white space, and what is no letter or digit
pub is_space-separates : (b : ℕ) → is_space b ≡ true → no is_alphanumeric b ≡ true
unfolding is_alphanumeric
is_space-separates b h =
    let l : b < 48 = omega (arith, space_range b h) in
    rw (lt-leb 48 b l, lt-leb 65 b (omega arith), lt-leb 97 b (omega arith))

pub words_trim_by_space : (s : List ℕ) → words is_space (trim s) ≡ words is_space s
words_trim_by_space = words_trim is_space (λ b h. h)

pub words_trim_by_marks : (s : List ℕ) → words (no is_alphanumeric) (trim s) ≡ words (no is_alphanumeric) s
words_trim_by_marks = words_trim (no is_alphanumeric) is_space-separates
