-- RULES 4.5: "A walker that keeps the text and its place gives the same words." In order: a walker at the front of a text; the
-- next word; the walker moved; the place past n words; the words that n steps give.
-- Assumes nothing.
use Rattle.std.specs.Prelude.{ℕ, zero, suc, Bool, List, [], ◌∷◌, None, Option, Some}
use Rattle.std.specs.Borrow.{Bor}
use Rattle.text.specs.Places.{part}
use Rattle.text.specs.Words.{take_word}
use Rattle.text.specs.declared.words.Span.{Span}
use Rattle.text.specs.declared.words.Words.{Words}
use Rattle.text.specs.declared.walker.Walker.{Walker}

-- at the front of a text
abbrev pub walker_of : Bor (List ℕ) → Walker
walker_of t = record { text = t; at = 0 }

-- the next word: the one that the reader takes at that place
abbrev pub next_of : Walker → (ℕ → Bool) → Option (Span × Words)
next_of w p = take_word p w.text.now w.at

-- the same text, at another place
abbrev pub moved_to : Walker → ℕ → Walker
moved_to w n = record { text = w.text; at = n }

-- if a word was taken, f of its bounds and of the reader past it; else d
abbrev if_word : {A : Type 0} → Option (Span × Words) → (Span → Words → A) → A → A
if_word (Some (x, r)) f d = f x r
if_word None f d = d

-- the place past n words from `at`, or past as many as there are
unfoldable pub passed : (ℕ → Bool) → ℕ → List ℕ → ℕ → ℕ
passed p zero s at = at
passed p (suc n) s at = if_word (take_word p s at) (λ x r. passed p n s r.at) at

-- the words that n steps give: each step takes the next word, and the walker moves past it
unfoldable pub walk : (ℕ → Bool) → ℕ → Walker → List (List ℕ)
walk p zero w = []
walk p (suc n) w = if_word (next_of w p) (λ x r. part w.text.now x ∷ walk p n (moved_to w r.at)) []
