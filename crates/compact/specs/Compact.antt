-- Compacting a book (RULES 13.15 and 13.16): a `hull` line is kept exactly if no later `hull` line has its path. All other lines are kept.
-- Assumes nothing.
use Rattle.std.specs.Prelude.{ℕ, Bool, true, false, cond, not, ◌||◌, List, [], ◌∷◌, None, Option, Some, Result}
use Rattle.text.specs.Bytes.{same}
use Rattle.text.specs.Places.{part}
use Rattle.text.specs.Lines.{ended_lines}
use Rattle.stamps.specs.Lines.{line_of}
use Rattle.stamps.specs.Book.{check_of}
use Rattle.stamps.specs.Copies.{joined, copied_at}
use Rattle.stamps.specs.declared.line.Line.{Line}
use Rattle.stamps.specs.declared.line.Line.TheVariants.{Hull, Since}
use Rattle.stamps.specs.declared.book.BookError.{BookError}

-- whether a line, which is judged to be this, is a `hull` line with the path p
abbrev pub has_path : List ℕ → List ℕ → Option Line → Bool
has_path p l (Some (Hull h)) = same (part l h.path) p
has_path p l (Some (Since x)) = false
has_path p l None = false

-- whether one of these lines is
unfoldable pub holds_path : ℕ → List ℕ → List (List ℕ) → Bool
holds_path bound p [] = false
holds_path bound p (l ∷ ls) = has_path p l (line_of bound l) || holds_path bound p ls

-- whether a line is kept above these lines
abbrev pub is_kept : ℕ → List ℕ → Option Line → List (List ℕ) → Bool
is_kept bound l (Some (Hull h)) below = not (holds_path bound (part l h.path) below)
is_kept bound l (Some (Since x)) below = true
is_kept bound l None below = true

-- the lines that are kept
unfoldable pub kept : ℕ → List (List ℕ) → List (List ℕ)
kept bound [] = []
kept bound (l ∷ ls) = let below = kept bound ls in cond (is_kept bound l (line_of bound l) ls) (l ∷ below) below

unfoldable pub compacted : ℕ → List ℕ → List ℕ
compacted bound book = joined (kept bound (ended_lines book))

-- what a call that compacts a book returns: refused as a check of the book is, then by 8 if the room is shorter than the compacted book
abbrev pub compact_of : ℕ → List ℕ → List ℕ → Result ℕ BookError
compact_of bound book room = copied_at (check_of bound book) (compacted bound book) room
