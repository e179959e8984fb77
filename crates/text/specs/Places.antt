-- Places in a text, counted from 0, and the text between two places. If a text does not hold a byte, the place of that byte is the
-- length of the text.
-- Assumes nothing.
use Rattle.std.specs.Prelude.{ℕ, suc, ◌+◌, ◌-◌, Bool, false, cond, not, ◌||◌, List, [], ◌∷◌, ltb, eqb, length, take, drop}
use Rattle.text.specs.declared.words.Span.{Span}

-- how many bytes at the front of s satisfy p
unfoldable pub run : (ℕ → Bool) → List ℕ → ℕ
run p [] = 0
run p (b ∷ s) = cond (p b) (suc (run p s)) 0

-- the bytes at the front of s that satisfy p
abbrev pub leading : (ℕ → Bool) → List ℕ → List ℕ
leading p s = take (run p s) s

-- the bytes that do not satisfy p
abbrev pub no : (ℕ → Bool) → ℕ → Bool
no p b = not (p b)

-- the place past the bytes from `at` on that satisfy p
unfoldable pub past : (ℕ → Bool) → List ℕ → ℕ → ℕ
past p s at = at + run p (drop at s)

-- the place of the first b
unfoldable pub first_place : ℕ → List ℕ → ℕ
first_place b s = run (λ x. not (eqb x b)) s

-- what comes before the first b; the whole text if it holds none
abbrev pub before : ℕ → List ℕ → List ℕ
before b s = take (first_place b s) s

-- whether s holds b
unfoldable pub has : ℕ → List ℕ → Bool
has b s = ltb (first_place b s) (length s)

-- the last place i at which the text from i on satisfies p
unfoldable pub last_where : (List ℕ → Bool) → List ℕ → ℕ
last_where p [] = 0
last_where p (b ∷ s) = let i = last_where p s in cond (ltb i (length s) || not (p (b ∷ s))) (suc i) 0

-- whether the first byte is b
abbrev pub opens_with : ℕ → List ℕ → Bool
opens_with b [] = false
opens_with b (x ∷ s) = eqb x b

-- the place of the last b
unfoldable pub last_place : ℕ → List ℕ → ℕ
last_place b s = last_where (opens_with b) s

-- the bytes of s within the bounds of a span
abbrev pub part : List ℕ → Span → List ℕ
part s p = take (p.end - p.start) (drop p.start s)
