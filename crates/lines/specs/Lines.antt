-- The lines of an input, each with its answer (RULES 10.1 and 10.4); and a buffer that holds a piece of an input.
-- Assumes nothing.
use Rattle.std.specs.Prelude.{ℕ, ◌+◌, ◌-◌, cond, List, [], ◌∷◌, ◌++◌, ltb, length, take, drop}
use Rattle.text.specs.Lines.{lines_of, ended_lines, taken_by}
use Rattle.lines.specs.Layout.{max_line}
use Rattle.lines.specs.Answers.{answer_line}
use Rattle.lines.specs.declared.cut.Step.{Step}

-- the answers of lines, one after the other
unfoldable pub answers_of : List (List ℕ) → List ℕ
answers_of [] = []
answers_of (l ∷ ls) = answer_line l ++ answers_of ls

-- the whole output of an input
unfoldable pub output_of : List ℕ → List ℕ
output_of s = answers_of (lines_of s)

-- ---- a buffer
-- the first of these lines, as many as have answers that fit together into a room of k bytes
unfoldable pub fitting : ℕ → List (List ℕ) → List (List ℕ)
fitting k [] = []
fitting k (l ∷ ls) = let n = length (answer_line l) in cond (ltb k n) [] (l ∷ fitting (k - n) ls)

-- the lines of a buffer s that are answered in a room of k bytes: those that have their end and whose answers fit
abbrev pub answered : List ℕ → ℕ → List (List ℕ)
answered s k = fitting k (ended_lines s)

-- how many bytes of s they take, and how many bytes of the room
abbrev pub step_of : List ℕ → ℕ → Step
step_of s k = record { taken = taken_by (answered s k); written = length (answers_of (answered s k)) }

-- the room afterwards: the answers, and behind them the bytes that were there
abbrev pub room_after_step : List ℕ → List ℕ → List ℕ
room_after_step s room = answers_of (answered s (length room)) ++ drop (length (answers_of (answered s (length room)))) room

-- the bytes of a buffer from `from` up to `end`
abbrev pub held_part : List ℕ → ℕ → ℕ → List ℕ
held_part buffer from end = take (end - from) (drop from buffer)

-- what is kept of a line that has no end yet: at most one byte more than a line may have, which shows that the line is too long
abbrev pub max_kept : ℕ
max_kept = max_line + 1

abbrev pub kept : List ℕ → List ℕ
kept s = take max_kept s
