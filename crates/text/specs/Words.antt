-- Words: the runs of bytes between separators (RULES 4.5). A separator is a test of a byte. Two are in use: white space; and every
-- byte but ASCII letters and digits, so that words are runs of those.
-- Assumes nothing.
use Rattle.std.specs.Prelude.{ℕ, Bool, cond, List, [], ◌∷◌, ltb, length, None, Option, Some}
use Rattle.text.specs.Places.{no, past}
use Rattle.text.specs.declared.words.Span.{Span}
use Rattle.text.specs.declared.words.Words.{Words}

-- b put in front of the first piece
abbrev pub onto : ℕ → List (List ℕ) → List (List ℕ)
onto b [] = (b ∷ []) ∷ []
onto b (w ∷ ws) = (b ∷ w) ∷ ws

-- s cut at each byte that satisfies p; empty pieces are kept
unfoldable pub pieces : (ℕ → Bool) → List ℕ → List (List ℕ)
pieces p [] = [] ∷ []
pieces p (b ∷ s) = let ws = pieces p s in cond (p b) ([] ∷ ws) (onto b ws)

-- the pieces that are not empty
unfoldable pub full : List (List ℕ) → List (List ℕ)
full [] = []
full ([] ∷ ws) = full ws
full ((b ∷ w) ∷ ws) = (b ∷ w) ∷ full ws

-- the words of s, separated by the bytes that satisfy p
unfoldable pub words : (ℕ → Bool) → List ℕ → List (List ℕ)
words p s = full (pieces p s)

-- RULES 4.5, "returns a word together with itself, moved past that word": the first word from `at` on, and the reader past it
unfoldable pub take_word : (ℕ → Bool) → List ℕ → ℕ → Option (Span × Words)
take_word p s at =
    let start = past p s at in
    let end = past (no p) s start in
    cond (ltb start (length s)) (Some (record { start = start; end = end }, record { at = end })) None
