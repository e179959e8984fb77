-- The lines of an input (RULES 10.1), and the fields of a line, with tabs between them (RULES 10.2).
-- Assumes nothing.
use Rattle.std.specs.Prelude.{ℕ, ◌+◌, cond, List, [], ◌∷◌, eqb, length, drop}
use Rattle.text.specs.Places.{first_place, before}
use Rattle.text.specs.Words.{onto}

abbrev pub tab : ℕ
tab = 9

abbrev pub newline : ℕ
newline = 10

-- the first field of s, and what follows its tab
abbrev pub field : List ℕ → List ℕ
field s = before tab s

abbrev pub rest : List ℕ → List ℕ
rest s = drop (first_place tab s + 1) s

-- the lines of an input, without their ends: a last line may lack its end, and after the last newline no line begins
unfoldable pub lines_of : List ℕ → List (List ℕ)
lines_of [] = []
lines_of (b ∷ s) = let ls = lines_of s in cond (eqb b newline) ([] ∷ ls) (onto b ls)

-- b added to the front of the first line, if there is one
abbrev pub onto_first : ℕ → List (List ℕ) → List (List ℕ)
onto_first b [] = []
onto_first b (l ∷ ls) = (b ∷ l) ∷ ls

-- the lines that have their end
unfoldable pub ended_lines : List ℕ → List (List ℕ)
ended_lines [] = []
ended_lines (b ∷ s) = let ls = ended_lines s in cond (eqb b newline) ([] ∷ ls) (onto_first b ls)

-- how many bytes these lines have, each with its end
unfoldable pub taken_by : List (List ℕ) → ℕ
taken_by [] = 0
taken_by (l ∷ ls) = length l + 1 + taken_by ls

-- what is left behind the lines that have their end
unfoldable pub left : List ℕ → List ℕ
left s = drop (taken_by (ended_lines s)) s
