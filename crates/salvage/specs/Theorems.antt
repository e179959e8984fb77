-- What the theorems about salvaging speak of (docs/PROMISES.md). No contract cites these.
-- Assumes nothing.
use Rattle.std.specs.Prelude.{ℕ, zero, suc, ◌+◌, ◌≡◌, false, cond, List, [], ◌∷◌, ◌++◌, eqb, length}
use Rattle.text.specs.Decimal.{decimal}
use Rattle.text.specs.Lines.{newline, field, left}
use Rattle.text.specs.Places.{has}

-- how many newlines there are among these bytes
unfoldable pub newlines : List ℕ → ℕ
newlines [] = 0
newlines (b ∷ s) = let n = newlines s in cond (eqb b newline) (suc n) n

-- the lines of an input: newlines, plus one for a last piece that is not empty
unfoldable pub line_count : List ℕ → ℕ
line_count s = newlines s + cond (eqb (length (left s)) 0) 0 1

-- the most bytes that a report on k bytes takes, where the first line has number n: as if each byte were a line, with a number, a tab, one
-- digit and a newline
unfoldable pub most_rows : ℕ → ℕ → ℕ
most_rows n zero = 0
most_rows n (suc k) = length (decimal n) + 3 + most_rows (suc n) k

-- the last row of this report, which begins behind whole rows, has this number in front of its tab
pub record LastRow (report : List ℕ) (n : ℕ) : Type 0 where
  pub front : List ℕ
  pub row : List ℕ
  pub report_is : report ≡ front ++ row ++ newline ∷ []
  pub begins : left front ≡ []
  pub one_line : has newline row ≡ false
  pub number_is : field row ≡ decimal n
