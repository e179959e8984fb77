-- Lines of a book copied to a room (RULES 13.11 and 13.16): their bytes, and what a call returns that copies them.
-- Assumes nothing.
use Rattle.std.specs.Prelude.{ℕ, Bool, true, false, cond, List, [], ◌∷◌, ◌++◌, length, Ok, Result, Err}
use Rattle.text.specs.Lines.{newline}
use Rattle.text.specs.Room.{fits}
use Rattle.time.specs.Answers.{number_of}
use Rattle.time.specs.declared.Refusal.TheVariants.{Room}
use Rattle.stamps.specs.declared.book.BookError.{BookError}
use Rattle.stamps.specs.Book.{refused_at}

-- lines as bytes, each with its newline
unfoldable pub joined : List (List ℕ) → List ℕ
joined [] = []
joined (l ∷ ls) = l ++ newline ∷ joined ls

-- what the call returns: refused as the check of the book is, then by 8 if the room is shorter than the bytes to be written
abbrev pub copied_at : Result (Unit {0}) BookError → List ℕ → List ℕ → Result ℕ BookError
copied_at (Ok tt) bytes room = cond (fits bytes room) (Ok (length bytes)) (refused_at Room 0)
copied_at (Err e) bytes room = Err e

-- whether it wrote the bytes
abbrev pub is_written : Result ℕ BookError → Bool
is_written (Ok n) = true
is_written (Err e) = false

-- the number that it returns, how many bytes it wrote, and the line: 0 where there is none
abbrev pub copied_number : Result ℕ BookError → ℕ
copied_number (Ok n) = 0
copied_number (Err e) = number_of e.refusal

abbrev pub copied_length : Result ℕ BookError → ℕ
copied_length (Ok n) = n
copied_length (Err e) = 0

abbrev pub copied_line : Result ℕ BookError → ℕ
copied_line (Ok n) = 0
copied_line (Err e) = e.line
