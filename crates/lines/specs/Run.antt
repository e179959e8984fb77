-- A whole run of `whenread`: its reads, one after the other, through a buffer that keeps the start of a line that has no end yet.
-- Assumes nothing.
use Rattle.std.specs.Prelude.{ℕ, List, [], ◌∷◌, ◌++◌}
use Rattle.text.specs.Lines.{ended_lines, left}
use Rattle.lines.specs.Answers.{answer_line}
use Rattle.lines.specs.Lines.{answers_of, kept}

-- the answer of what is held at the end of the input: a last line that lacks its end, or nothing
unfoldable pub last_of : List ℕ → List ℕ
last_of [] = []
last_of (b ∷ s) = answer_line (b ∷ s)

-- each read is put behind what is held; the lines that have their end are answered, and what is left, the start of a line, is kept
unfoldable pub run_of : List ℕ → List (List ℕ) → List ℕ
run_of held [] = last_of held
run_of held (r ∷ reads) = answers_of (ended_lines (held ++ r)) ++ run_of (kept (left (held ++ r))) reads

-- all reads, one behind the other
unfoldable pub joined : List (List ℕ) → List ℕ
joined [] = []
joined (r ∷ reads) = r ++ joined reads
