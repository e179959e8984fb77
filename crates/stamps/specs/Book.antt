-- The lines of a book and its first bad one (RULES 13.1, 13.8 and 13.9). Lines are counted from 1.
-- Assumes nothing.
use Rattle.std.specs.Prelude.{ℕ, suc, cond, List, [], ◌∷◌, ◌++◌, leb, length, None, Option, Some, Ok, Result, Err}
use Rattle.text.specs.Lines.{ended_lines, left}
use Rattle.time.specs.Answers.{number_of}
use Rattle.time.specs.declared.Refusal.{Refusal}
use Rattle.time.specs.declared.Refusal.TheVariants.{Book}
use Rattle.stamps.specs.Lines.{line_of, is_good}
use Rattle.stamps.specs.declared.line.Line.{Line}
use Rattle.stamps.specs.declared.line.Line.TheVariants.{Hull, Since}
use Rattle.stamps.specs.declared.book.BookError.{BookError}

-- RULES 13.8: the most bytes that a book has
abbrev pub max_book : ℕ
max_book = 65536

-- each line judged alone
unfoldable pub judged : ℕ → List (List ℕ) → List (Option Line)
judged bound [] = []
judged bound (l ∷ ls) = line_of bound l ∷ judged bound ls

-- what follows the last newline is a bad line, unless it is empty
abbrev pub last_piece : List ℕ → List (Option Line)
last_piece [] = []
last_piece (b ∷ s) = None ∷ []

-- the lines of a book, judged
unfoldable pub lines_in : ℕ → List ℕ → List (Option Line)
lines_in bound book = judged bound (ended_lines book) ++ last_piece (left book)

-- the number of the first bad line, where the first of these lines has number n
unfoldable pub first_bad : ℕ → List (Option Line) → Option ℕ
first_bad n [] = None
first_bad n (Some (Hull h) ∷ ls) = first_bad (suc n) ls
first_bad n (Some (Since x) ∷ ls) = first_bad (suc n) ls
first_bad n (None ∷ ls) = Some n

-- its number, or 0 if there is none
abbrev pub bad_number : Option ℕ → ℕ
bad_number (Some n) = n
bad_number None = 0

-- the good lines in front of it
unfoldable pub good_front : ℕ → List (List ℕ) → List (List ℕ)
good_front bound [] = []
good_front bound (l ∷ ls) = cond (is_good (line_of bound l)) (l ∷ good_front bound ls) []

-- refused at a line
abbrev pub refused_at : {A : Type 0} → Refusal → ℕ → Result A BookError
refused_at r n = Err (record { refusal = r; line = n })

-- refused by 10 at the first bad line
abbrev pub checked_at : Option ℕ → Result (Unit {0}) BookError
checked_at (Some n) = refused_at Book n
checked_at None = Ok tt

-- a book that is too long is refused first, by 10 at line 0
unfoldable pub check_of : ℕ → List ℕ → Result (Unit {0}) BookError
check_of bound book = cond (leb (length book) max_book) (checked_at (first_bad 1 (lines_in bound book))) (refused_at Book 0)

-- the number that a check returns, and the line: 0 for a good book
abbrev pub checked_number : Result (Unit {0}) BookError → ℕ
checked_number (Ok tt) = 0
checked_number (Err e) = number_of e.refusal

abbrev pub checked_line : Result (Unit {0}) BookError → ℕ
checked_line (Ok tt) = 0
checked_line (Err e) = e.line
