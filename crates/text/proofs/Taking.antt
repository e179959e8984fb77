-- Words and the reader of words, for any separator. In order: the first word of a text; `take_word` gives the first word of those
-- that are left, and moves on; those words by places; taking again and again gives the words; the words of two texts with a
-- separator between them; a word has no separator in it.
-- Assumes nothing.
use Rattle.std.specs.Prelude.{None, Option, Some}
use mathlib.Core.Path.{◌≡◌, refl, sym, ap, ◌∙◌}
use mathlib.Core.Bool.{Bool, true, false}
use mathlib.Core.List.{List, [], ◌∷◌, ◌++◌, append-nil}
use Prim.Native.Nat.{ℕ, zero, suc, ◌+◌, ◌-◌, ◌≤◌, ◌<◌}
use native.Mathlib.Omega.{arith}
use native.Mathlib.Nat.{add-sub_cancel_left, not-suc-le-zero, le_of_lt}
use borrow.Author.Tests.{ltb-true, ltb-false, lt-ltb}
use lib.Dec.{ltb}
use lib.ListN.{length, take, drop, get_or, length-drop, drop_of_length-le}
use lib.Seq.{drop-drop, take-nil}
use Rattle.text.specs.Places.{run, no, past, part}
use Rattle.text.specs.Words.{onto, pieces, full, words, take_word}
use Rattle.text.proofs.Lists.{by_test}
use Rattle.text.proofs.Runs.{past-le-length, le-past, drop_past}
use Rattle.text.specs.declared.words.Span.{Span}
use Rattle.text.specs.declared.words.Words.{Words}

-- the words that are left, by an answer of the reader: the word taken, and then the words from the place of the returned reader on
abbrev pub listed : (ℕ → Bool) → List ℕ → Option (Span × Words) → List (List ℕ)
listed p s (Some (x, w)) = part s x ∷ words p (drop w.at s)
listed p s None = []

-- where an answer with a word leaves the reader: further on than before, and within the text
abbrev pub Moves : List ℕ → ℕ → Option (Span × Words) → Type 0
Moves s at (Some (x, w)) = (at < w.at) × (w.at ≤ length s)
Moves s at None = Unit {0}

module _ (p : ℕ → Bool) where
  -- the pieces after the first one
  abbrev tails : List ℕ → List (List ℕ)
  tails [] = []
  tails (b ∷ s) = pieces p s

  abbrev q : ℕ → Bool
  q = no p

  -- ---- the first word
  -- separators in front make no word
  words-drop-run : (s : List ℕ) → words p (drop (run p s) s) ≡ words p s
  unfolding words pieces full run
  words-drop-run [] = refl
  words-drop-run (b ∷ s) = by_test (p b) (λ e. rw e (words-drop-run s)) (λ e. rw (e, e))

  -- the byte after them is no separator
  run-pos : (s : List ℕ) → 0 < length (drop (run p s) s) → 0 < run q (drop (run p s) s)
  unfolding run
  run-pos [] h = h
  run-pos (b ∷ s) h = by_test (p b) (λ e. rw e (run-pos s (rw e at h))) (λ e. rw (e, e) (omega arith))

  -- the first piece
  pieces-cons : (s : List ℕ) → pieces p s ≡ take (run q s) s ∷ tails (drop (run q s) s)
  unfolding pieces run
  pieces-cons [] = refl
  pieces-cons (b ∷ s) = by_test (p b) (λ e. rw e) (λ e. rw (e, pieces-cons s))

  -- the rest
  full_tails : (s : List ℕ) → full (tails (drop (run q s) s)) ≡ words p (drop (run q s) s)
  unfolding words pieces full run
  full_tails [] = refl
  full_tails (b ∷ s) = by_test (p b) (λ e. rw (e, e)) (λ e. rw e (full_tails s))

  -- a piece that is not empty is a word
  full-cons : (n : ℕ) (s : List ℕ) (ws : List (List ℕ)) → 0 < n → 0 < length s → full (take n s ∷ ws) ≡ take n s ∷ full ws
  unfolding full
  full-cons zero s ws h k = absurd (not-suc-le-zero h)
  full-cons (suc n) [] ws h k = absurd (not-suc-le-zero k)
  full-cons (suc n) (b ∷ s) ws h k = refl

  words-cons : (s : List ℕ) → 0 < length (drop (run p s) s) → words p s ≡ take (run q (drop (run p s) s)) (drop (run p s) s) ∷ words p (drop (run q (drop (run p s) s)) (drop (run p s) s))
  unfolding words
  words-cons s h =
      let t = drop (run p s) s in
      sym (words-drop-run s) ∙ ap full (pieces-cons t) ∙ full-cons (run q t) t (tails (drop (run q t) t)) (run-pos s h) h ∙ ap (λ (ws : List (List ℕ)). take (run q t) t ∷ ws) (full_tails t)

  -- ---- the reader
  more : (s : List ℕ) (at : ℕ) → past p s at < length s → 0 < length (drop (run p (drop at s)) (drop at s))
  more s at h = rw (drop_past p s at) (omega (arith, length-drop (past p s at) s))

  words_of_lt : (s : List ℕ) (at : ℕ) → past p s at < length s
      → words p (drop at s) ≡ take (past q s (past p s at) - past p s at) (drop (past p s at) s) ∷ words p (drop (past q s (past p s at)) s)
  unfolding past
  words_of_lt s at h =
      let a : ℕ = past p s at in
      rw (add-sub_cancel_left a, ← drop-drop (run q (drop a s)) a s) (rw (drop_past p s at) at (words-cons (drop at s) (more s at h)))

  words_of_le : (s : List ℕ) (at : ℕ) → length s ≤ past p s at → words p (drop at s) ≡ []
  unfolding words pieces full
  words_of_le s at h = rw (drop_past p s at, drop_of_length-le s {i = (past p s at)} h) at (sym (words-drop-run (drop at s)))

  past-lt : (s : List ℕ) (at : ℕ) → past p s at < length s → at < past q s (past p s at)
  unfolding past
  past-lt s at h = omega (arith, rw (drop_past p s at) at (run-pos (drop at s) (more s at h)))

  -- a word that the reader takes is the first of the words that are left, and the returned reader has the others
  pub words-take_word : (s : List ℕ) (at : ℕ) (t : Option (Span × Words)) → t ≡ take_word p s at → words p (drop at s) ≡ listed p s t
  unfolding take_word
  words-take_word s at t e = rw e (by_test (ltb (past p s at) (length s)) (λ y. rw y (words_of_lt s at (ltb-true _ _ y))) (λ n. rw n (words_of_le s at (ltb-false _ _ n))))

  pub take_word-moves : (s : List ℕ) (at : ℕ) → Moves s at (take_word p s at)
  unfolding take_word
  take_word-moves s at =
      by_test (ltb (past p s at) (length s))
      (λ e. rw e (past-lt s at (ltb-true _ _ e), past-le-length (no p) s (past p s at) (le_of_lt (ltb-true _ _ e))))
      (λ e. rw e tt)

  -- the words that are left at a place, by places: whether there is one, the first, and the others
  module _ (s : List ℕ) (at : ℕ) where
    abbrev start : ℕ
    start = past p s at

    abbrev end : ℕ
    end = past q s (past p s at)

    pub ltb-zero-length-words : ltb 0 (length (words p (drop at s))) ≡ ltb (past p s at) (length s)
    ltb-zero-length-words =
        by_test (ltb start (length s)) (λ e. rw (e, words_of_lt s at (ltb-true _ _ e)) (some (words p (drop end s)))) (λ e. rw (e, words_of_le s at (ltb-false _ _ e)))
      where
        some : (ws : List (List ℕ)) → ltb 0 (suc (length ws)) ≡ true
        some ws = lt-ltb 0 (suc (length ws)) (omega arith)

    pub get_or-words-zero : get_or (words p (drop at s)) 0 [] ≡ take (past q s (past p s at) - past p s at) (drop (past p s at) s)
    get_or-words-zero =
        by_test (ltb start (length s)) (λ e. rw (words_of_lt s at (ltb-true _ _ e)))
        (λ e. rw (words_of_le s at (ltb-false _ _ e), drop_of_length-le s {i = start} (ltb-false _ _ e), take-nil))

    pub drop-one-words : drop 1 (words p (drop at s)) ≡ words p (drop (past q s (past p s at)) s)
    unfolding words pieces full
    drop-one-words =
        by_test (ltb start (length s)) (λ e. rw (words_of_lt s at (ltb-true _ _ e)))
        (λ e.
        let h : length s ≤ end = omega (arith, le-past q s start, ltb-false start (length s) e) in
        rw (words_of_le s at (ltb-false _ _ e), drop_of_length-le s {i = end} h))

-- ---- taking again and again
abbrev after : List ℕ → Option (Span × Words) → (ℕ → List (List ℕ)) → List (List ℕ)
after s None k = []
after s (Some (x, w)) k = part s x ∷ k w.at

-- the words that n takings from `at` give
abbrev pub takings : (ℕ → Bool) → ℕ → List ℕ → ℕ → List (List ℕ)
takings p zero s at = []
takings p (suc n) s at = after s (take_word p s at) (takings p n s)

-- as many takings as bytes are left give the words of what is left
pub takings_words : (p : ℕ → Bool) (n : ℕ) (s : List ℕ) (at : ℕ) → length s ≤ at + n → takings p n s at ≡ words p (drop at s)
unfolding take_word words pieces full
takings_words p zero s at h = let e : length s ≤ at = omega arith in rw (drop_of_length-le s {i = at} e)
takings_words p (suc n) s at h =
    by_test (ltb (past p s at) (length s))
    (λ e.
    let l : past p s at < length s = ltb-true _ _ e in
    let m : at < past (no p) s (past p s at) = past-lt p s at l in
    rw (e, words_of_lt p s at l, takings_words p n s (past (no p) s (past p s at)) (omega arith)))
    (λ e. rw (e, words_of_le p s at (ltb-false _ _ e)))

-- ---- two texts
module _ (p : ℕ → Bool) where
  onto_onto : (c b : ℕ) (ws vs : List (List ℕ)) → onto c (onto b ws ++ vs) ≡ onto c (onto b ws) ++ vs
  onto_onto c b [] vs = refl
  onto_onto c b (w ∷ ws) vs = refl

  onto_pieces : (c : ℕ) (s : List ℕ) (vs : List (List ℕ)) → onto c (pieces p s ++ vs) ≡ onto c (pieces p s) ++ vs
  unfolding pieces
  onto_pieces c [] vs = refl
  onto_pieces c (b ∷ s) vs = by_test (p b) (λ e. rw e) (λ e. rw e (onto_onto c b (pieces p s) vs))

  pieces-append : (a b : List ℕ) (x : ℕ) → p x ≡ true → pieces p (a ++ x ∷ b) ≡ pieces p a ++ pieces p b
  unfolding pieces
  pieces-append [] b x h = rw h
  pieces-append (c ∷ a) b x h =
      by_test (p c) (λ e. rw (e, pieces-append a b x h)) (λ e. rw (e, pieces-append a b x h) (onto_pieces c a (pieces p b)))

  full-append : (a b : List (List ℕ)) → full (a ++ b) ≡ full a ++ full b
  unfolding full
  full-append [] b = refl
  full-append ([] ∷ a) b = full-append a b
  full-append ((x ∷ w) ∷ a) b = rw (full-append a b)

  -- the words of two texts with a separator between them are the words of the first and then of the second
  pub words_append : (a b : List ℕ) (x : ℕ) → p x ≡ true → words p (a ++ x ∷ b) ≡ words p a ++ words p b
  unfolding words
  words_append a b x h = rw (pieces-append a b x h, full-append)

  -- separators at either end make no word
  pub words-cons-separator : (x : ℕ) (s : List ℕ) → p x ≡ true → words p (x ∷ s) ≡ words p s
  unfolding words pieces full
  words-cons-separator x s h = rw h

  pub words-snoc-separator : (x : ℕ) (s : List ℕ) → p x ≡ true → words p (s ++ (x ∷ [])) ≡ words p s
  unfolding words pieces full
  words-snoc-separator x s h = words_append s [] x h ∙ append-nil (words p s)

  -- ---- a word has no separator in it
  -- no byte separates
  abbrev pub Whole : List ℕ → Type 0
  Whole [] = Unit {0}
  Whole (b ∷ w) = (p b ≡ false) × Whole w

  abbrev pub AllWhole : List (List ℕ) → Type 0
  AllWhole [] = Unit {0}
  AllWhole (w ∷ ws) = Whole w × AllWhole ws

  onto_whole : (b : ℕ) (ws : List (List ℕ)) → p b ≡ false → AllWhole ws → AllWhole (onto b ws)
  onto_whole b [] e h = ((e, tt), tt)
  onto_whole b (w ∷ ws) e h = ((e, h.0), h.1)

  pieces_whole : (s : List ℕ) → AllWhole (pieces p s)
  unfolding pieces
  pieces_whole [] = (tt, tt)
  pieces_whole (b ∷ s) = by_test (p b) (λ e. rw e (tt, pieces_whole s)) (λ e. rw e (onto_whole b (pieces p s) e (pieces_whole s)))

  full_whole : (ws : List (List ℕ)) → AllWhole ws → AllWhole (full ws)
  unfolding full
  full_whole [] h = tt
  full_whole ([] ∷ ws) h = full_whole ws h.1
  full_whole ((b ∷ w) ∷ ws) h = (h.0, full_whole ws h.1)

  pub words_whole : (s : List ℕ) → AllWhole (words p s)
  unfolding words
  words_whole s = full_whole (pieces p s) (pieces_whole s)

  -- and a text with no separator in it is one word
  pieces_of_whole : (w : List ℕ) → Whole w → pieces p w ≡ w ∷ []
  unfolding pieces
  pieces_of_whole [] h = refl
  pieces_of_whole (b ∷ w) h = rw (h.0, pieces_of_whole w h.1)

  pub words_of_whole : (w : List ℕ) → 0 < length w → Whole w → words p w ≡ w ∷ []
  unfolding words full
  words_of_whole [] k h = absurd (not-suc-le-zero k)
  words_of_whole (b ∷ w) k h = rw (pieces_of_whole (b ∷ w) h)
