-- Salvaging a damaged book (RULES 16): its good lines are copied, and the bad ones are reported. Each line is judged alone, as in a book
-- (RULES 13.2 to 13.7). Lines are counted from 1.
-- Assumes nothing.
use Rattle.std.specs.Prelude.{ℕ, suc, Bool, true, false, cond, List, [], ◌∷◌, ◌++◌, leb, length, Result, Ok, Err}
use Rattle.text.specs.Decimal.{decimal}
use Rattle.text.specs.Lines.{tab, ended_lines, left}
use Rattle.text.specs.Room.{fit_both}
use Rattle.time.specs.Answers.{number_of}
use Rattle.time.specs.declared.Refusal.{Refusal}
use Rattle.time.specs.declared.Refusal.TheVariants.{Room, Book}
use Rattle.stamps.specs.Lines.{line_of, is_good}
use Rattle.stamps.specs.Book.{max_book}
use Rattle.stamps.specs.Copies.{joined}
use Rattle.salvage.specs.declared.Salvaged.{Salvaged}

-- ---- the lines that are kept
unfoldable pub good_lines : ℕ → List (List ℕ) → List (List ℕ)
good_lines bound [] = []
good_lines bound (l ∷ ls) = let below = good_lines bound ls in cond (is_good (line_of bound l)) (l ∷ below) below

unfoldable pub salvaged : ℕ → List ℕ → List ℕ
salvaged bound book = joined (good_lines bound (ended_lines book))

-- ---- the lines that are dropped
-- a line that is dropped: its number, and how many bytes it has without its newline
pub record Dropped : Type 0 where
  pub number : ℕ
  pub size : ℕ

-- the bad ones among these lines, where the first has number n
unfoldable pub bad_lines : ℕ → ℕ → List (List ℕ) → List Dropped
bad_lines bound n [] = []
bad_lines bound n (l ∷ ls) = let below = bad_lines bound (suc n) ls in cond (is_good (line_of bound l)) below (record { number = n; size = length l } ∷ below)

-- a last piece without a newline is bad, even if its bytes would do. An empty one is no line
abbrev pub bad_piece : ℕ → List ℕ → List Dropped
bad_piece n [] = []
bad_piece n (b ∷ s) = record { number = n; size = length (b ∷ s) } ∷ []

unfoldable pub dropped : ℕ → List ℕ → List Dropped
dropped bound book = bad_lines bound 1 (ended_lines book) ++ bad_piece (suc (length (ended_lines book))) (left book)

-- the number of the last of these, or n if there is none
unfoldable pub last_number : ℕ → List Dropped → ℕ
last_number n [] = n
last_number n (d ∷ ds) = last_number d.number ds

-- ---- the report: a row for each line that is dropped, with its number, a tab and its length
abbrev pub row_of : Dropped → List ℕ
row_of d = decimal d.number ++ tab ∷ decimal d.size

unfoldable pub rows_of : List Dropped → List (List ℕ)
rows_of [] = []
rows_of (d ∷ ds) = row_of d ∷ rows_of ds

unfoldable pub report : ℕ → List ℕ → List ℕ
report bound book = joined (rows_of (dropped bound book))

-- ---- what the call returns: how many bytes the good lines and the report have, and the number of the last bad line, which is 0 if there is
-- none. A book that is too long is refused by 10, then a room that is too short by 8
abbrev pub salvaged_at : List ℕ → List ℕ → List ℕ → List ℕ → ℕ → Result Salvaged Refusal
salvaged_at bytes room more other last = cond (fit_both bytes room more other) (Ok (record { length = length bytes; report_length = length more; last_bad = last })) (Err Room)

unfoldable pub salvage_of : ℕ → List ℕ → List ℕ → List ℕ → Result Salvaged Refusal
salvage_of bound book room other =
    cond (leb (length book) max_book) (salvaged_at (salvaged bound book) room (report bound book) other (last_number 0 (dropped bound book))) (Err Book)

-- whether it wrote both
abbrev pub is_written : Result Salvaged Refusal → Bool
is_written (Ok s) = true
is_written (Err r) = false

-- the number that it returns, how many bytes it wrote to each room, and the number of the last bad line: 0 where there is none
abbrev pub salvaged_number : Result Salvaged Refusal → ℕ
salvaged_number (Ok s) = 0
salvaged_number (Err r) = number_of r

abbrev pub book_length : Result Salvaged Refusal → ℕ
book_length (Ok s) = s.length
book_length (Err r) = 0

abbrev pub report_length : Result Salvaged Refusal → ℕ
report_length (Ok s) = s.report_length
report_length (Err r) = 0

abbrev pub last_bad : Result Salvaged Refusal → ℕ
last_bad (Ok s) = s.last_bad
last_bad (Err r) = 0
