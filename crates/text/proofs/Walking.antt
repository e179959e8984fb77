-- A walker, which keeps the text and its place, gives the same words as the reader (RULES 4.5). In order: a proof by an answer of
-- the reader; the place past n words, and the words that are left there; the word with n words before it; the promise: a walker
-- gives the reader's words, n steps give the first n, and as many steps as there are bytes give all of them.
-- Assumes nothing.
use Rattle.std.specs.Prelude.{None, Option, Some}
use mathlib.Core.Path.{◌≡◌, refl, sym, ap, ◌∙◌}
use mathlib.Core.Bool.{Bool}
use mathlib.Core.List.{List, [], ◌∷◌}
use Prim.Native.Nat.{ℕ, zero, suc, ◌-◌, ◌≤◌, ◌<◌}
use native.Mathlib.Nat.{not-suc-le-zero}
use native.Mathlib.Omega.{arith}
use lib.ListN.{length, get_or, take, drop}
use denote.Ref.{Bor}
use Rattle.text.specs.Words.{words, take_word}
use Rattle.text.specs.Walk.{walker_of, next_of, moved_to, passed, walk}
use Rattle.text.specs.declared.words.Span.{Span}
use Rattle.text.specs.declared.words.Words.{Words}
use Rattle.text.specs.declared.walker.Walker.{Walker}
use Rattle.text.proofs.Taking.{listed, words-take_word, takings, takings_words}

-- by an answer of the reader: each case may rewrite by that answer
by_taken : {A : Type 0} (t : Option (Span × Words)) → ((x : Span) (r : Words) → t ≡ Some (x, r) → A) → (t ≡ None → A) → A
by_taken (Some (x, r)) f g = f x r refl
by_taken None f g = g refl

-- ---- the place past n words
module _ (p : ℕ → Bool) where
  pub passed_of_le-zero : (k : ℕ) (s : List ℕ) (at : ℕ) → k ≤ 0 → passed p k s at ≡ at
  unfolding passed
  passed_of_le-zero zero s at h = refl
  passed_of_le-zero (suc k) s at h = absurd (not-suc-le-zero h)

  -- if no word is left, the place stays the same
  pub passed_of_None : (k : ℕ) (s : List ℕ) (at : ℕ) → take_word p s at ≡ None → passed p k s at ≡ at
  unfolding passed
  passed_of_None zero s at e = refl
  passed_of_None (suc k) s at e = rw e

  -- if a word is taken, one fewer is to be passed
  pub passed_of_Some : (k : ℕ) (s : List ℕ) (at : ℕ) (x : Span) (r : Words) → 0 < k → take_word p s at ≡ Some (x, r) → passed p k s at ≡ passed p (k - 1) s r.at
  unfolding passed
  passed_of_Some zero s at x r h e = absurd (not-suc-le-zero h)
  passed_of_Some (suc k) s at x r h e = let m : suc k - 1 ≡ k = omega arith in rw (e, m)

  -- past n words, all words but the first n are left
  words-drop-passed : (n : ℕ) (s : List ℕ) (at : ℕ) → words p (drop (passed p n s at) s) ≡ drop n (words p (drop at s))
  unfolding passed
  words-drop-passed zero s at = refl
  words-drop-passed (suc n) s at =
      by_taken (take_word p s at)
      (λ x r e. rw (e, words-take_word p s at (Some (x, r)) (sym e)) (words-drop-passed n s r.at))
      (λ e. rw (e, words-take_word p s at None (sym e)))

-- ---- the word with n words before it
get_or-drop : (ws : List (List ℕ)) (n : ℕ) → get_or (drop n ws) 0 [] ≡ get_or ws n []
get_or-drop ws zero = refl
get_or-drop [] (suc n) = refl
get_or-drop (w ∷ ws) (suc n) = get_or-drop ws n

-- the word with n words before it is the first word of what is left past n words
pub get_or-words : (p : ℕ → Bool) (n : ℕ) (s left : List ℕ) (at : ℕ) (t : Option (Span × Words)) → left ≡ drop (passed p n s 0) s → at ≡ 0 → t ≡ take_word p left at → get_or (words p s) n [] ≡ get_or (listed p left t) 0 []
get_or-words p n s left at t l a e =
    let first : words p left ≡ listed p left t = words-take_word p left 0 t (rw a at e) in
    let rest : words p left ≡ drop n (words p s) = rw l (words-drop-passed p n s 0) in
    sym (get_or-drop (words p s) n) ∙ ap (λ (ws : List (List ℕ)). get_or ws 0 []) (sym rest ∙ first)

-- ---- the promise
module _ (p : ℕ → Bool) where
  -- a walker and the reader give the same words, step by step, from any place
  pub walking_gives_the_readers_words : (n : ℕ) (w : Walker) → walk p n w ≡ takings p n w.text.now w.at
  unfolding walk
  walking_gives_the_readers_words zero w = refl
  walking_gives_the_readers_words (suc n) w = by_taken (next_of w p) (λ x r e. rw (e, walking_gives_the_readers_words n (moved_to w r.at))) (λ e. rw e)

  walk-take : (n : ℕ) (w : Walker) → walk p n w ≡ take n (words p (drop w.at w.text.now))
  unfolding walk
  walk-take zero w = refl
  walk-take (suc n) w =
      by_taken (next_of w p)
      (λ x r e. rw (e, words-take_word p w.text.now w.at (Some (x, r)) (sym e), walk-take n (moved_to w r.at)))
      (λ e. rw (e, words-take_word p w.text.now w.at None (sym e)))

  -- n steps from the front of a text give the first n of its words
  pub walking_gives_the_first_words : (n : ℕ) (t : Bor (List ℕ)) → walk p n (walker_of t) ≡ take n (words p t.now)
  walking_gives_the_first_words n t = walk-take n (walker_of t)

  -- as many steps as the text has bytes, or more, give all of its words
  pub walking_gives_the_words : (n : ℕ) (t : Bor (List ℕ)) → length t.now ≤ n → walk p n (walker_of t) ≡ words p t.now
  walking_gives_the_words n t h = walking_gives_the_readers_words n (walker_of t) ∙ takings_words p n t.now 0 (omega (arith, h))
