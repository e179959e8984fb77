-- The listing of a book (RULES 13.10 and 13.11): the `hull` lines whose seconds are at or after the cut-off of the last `since`
-- line above them, all where there is none, in the order of the book, each with its newline.
-- Assumes nothing.
use Rattle.std.specs.Prelude.{ℕ, Bool, true, false, cond, List, [], ◌∷◌, ℤ, None, Option, Some, Result}
use Rattle.std.specs.Int.Signed.{le_z}
use Rattle.text.specs.Lines.{ended_lines}
use Rattle.stamps.specs.Lines.{line_of}
use Rattle.stamps.specs.Book.{check_of}
use Rattle.stamps.specs.Copies.{joined, copied_at}
use Rattle.stamps.specs.declared.line.Line.{Line}
use Rattle.stamps.specs.declared.line.Line.TheVariants.{Hull, Since}
use Rattle.stamps.specs.declared.book.BookError.{BookError}

-- whether seconds are at or after a cut-off; where there is none, all are
abbrev pub is_at_or_after : Option ℤ → ℤ → Bool
is_at_or_after (Some c) z = le_z c z
is_at_or_after None z = true

-- whether a line is listed, under the cut-off of the last `since` line above it
abbrev pub is_listed : Option ℤ → Option Line → Bool
is_listed c (Some (Hull h)) = is_at_or_after c h.time.seconds
is_listed c (Some (Since x)) = false
is_listed c None = false

-- the cut-off that a line gives
abbrev pub cut_off_in : Option Line → Option ℤ
cut_off_in (Some (Hull h)) = None
cut_off_in (Some (Since x)) = Some x.cut_off.seconds
cut_off_in None = None

-- a cut-off, or, where there is none, the one above it
abbrev pub or_above : Option ℤ → Option ℤ → Option ℤ
or_above (Some c) above = Some c
or_above None above = above

-- the cut-off for the lines below this one
abbrev pub cut_off_below : Option ℤ → Option Line → Option ℤ
cut_off_below c l = or_above (cut_off_in l) c

-- the lines that are listed
unfoldable pub listed : ℕ → Option ℤ → List (List ℕ) → List (List ℕ)
listed bound c [] = []
listed bound c (l ∷ ls) =
    let below = listed bound (cut_off_below c (line_of bound l)) ls in
    cond (is_listed c (line_of bound l)) (l ∷ below) below

unfoldable pub listing : ℕ → List ℕ → List ℕ
listing bound book = joined (listed bound None (ended_lines book))

-- what a call that lists a book returns
abbrev pub list_of : ℕ → List ℕ → List ℕ → Result ℕ BookError
list_of bound book room = copied_at (check_of bound book) (listing bound book) room
