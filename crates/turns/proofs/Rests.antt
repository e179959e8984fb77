-- A text, by its first word and the rest of it, as the word reader finds them; and what is awaited behind that word.
-- Assumes nothing.
use Rattle.std.specs.Prelude.{None, Some}
use mathlib.Core.Path.{◌≡◌, sym, ◌∙◌}
use mathlib.Core.Bool.{false}
use mathlib.Core.List.{List, [], ◌∷◌}
use Prim.Native.Nat.{ℕ, ◌<◌}
use native.Mathlib.Omega.{arith}
use lib.ListN.{length, drop, length-drop}
use Rattle.text.specs.Places.{part, no}
use Rattle.text.specs.Bytes.{is_alphanumeric}
use Rattle.text.specs.Words.{take_word}
use Rattle.text.specs.declared.words.Span.{Span}
use Rattle.text.specs.declared.words.Words.{Words}
use Rattle.text.proofs.Taking.{words-take_word, take_word-moves}
use Rattle.text.proofs.Lists.{by_test}
use Rattle.relative.specs.Words.{words_of, is, count_of}
use Rattle.relative.specs.Pairs.{next}
use Rattle.relative.proofs.LetterCase.{ago_is_no_count}

module _ (s : List ℕ) {at : ℕ} (z : at ≡ 0) where
  pub no_word : None ≡ take_word (no is_alphanumeric) s at → words_of s ≡ []
  unfolding words_of
  no_word e = words-take_word (no is_alphanumeric) s 0 _ (rw z at e)

  module _ {x : Span} {w : Words} {rest : List ℕ} (e : Some (x, w) ≡ take_word (no is_alphanumeric) s at) (d : rest ≡ drop w.at s) where
    pub first_word : words_of s ≡ part s x ∷ words_of rest
    unfolding words_of
    first_word = rw d (words-take_word (no is_alphanumeric) s 0 _ (rw z at e))

    pub rest_shorter : length rest < length s
    rest_shorter =
        let m = rw (← e) at (take_word-moves (no is_alphanumeric) s at) in
        rw d (omega (arith, m.0, m.1, length-drop w.at s))

-- ---- behind the first word
-- a count is not `ago`, so that its unit is awaited
pub not-ago : (w : List ℕ) {n : ℕ} → count_of w ≡ Some n → is w "ago" ≡ false
not-ago w {n} e = by_test (is w "ago") (λ f. let k : None ≡ Some n = sym (ago_is_no_count w f) ∙ e in let z : ◌≡◌ {A = ℕ} 0 1 = cc in absurd (omega arith)) (λ f. f)

-- behind any other word a count is still awaited
pub still_awaited : (w : List ℕ) → count_of w ≡ None → next None w ≡ None
still_awaited w e = by_test (is w "ago") (λ f. rw f) (λ f. rw (f, e))
