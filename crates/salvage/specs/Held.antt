-- What the code holds on the way to an answer. Nothing here is needed to read what the public calls ensure.
-- Assumes nothing.
use Rattle.std.specs.Prelude.{ℕ, ◌+◌, cond, List, [], ◌∷◌, ◌++◌, leb, length}
use Rattle.text.specs.Decimal.{decimal_before}
use Rattle.text.specs.Lines.{tab, newline}
use Rattle.text.specs.Room.{put_at}
use Rattle.salvage.specs.Salvage.{row_of}

-- a row of the report with its newline
abbrev pub ended_row : ℕ → ℕ → List ℕ
ended_row n size = row_of (record { number = n; size = size }) ++ newline ∷ []

-- a row of the report with its newline, in front of t, since a row is written from its end to its front
unfoldable pub row_before : ℕ → ℕ → List ℕ → List ℕ
row_before n size t = decimal_before n (tab ∷ decimal_before size (newline ∷ t))

-- the room with these bytes from place `at` on, if they fit there
abbrev pub put_if_room : List ℕ → ℕ → List ℕ → List ℕ
put_if_room bytes at room = cond (leb (at + length bytes) (length room)) (put_at bytes at room) room
