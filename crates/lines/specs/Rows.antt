-- An answer line (RULES 10.4): number, seconds and offset in plain decimal, with tabs between and a newline.
-- Assumes nothing.
use Rattle.std.specs.Prelude.{ℕ, cond, List, [], ◌∷◌, ◌++◌, length}
use Rattle.text.specs.Decimal.{decimal, signed}
use Rattle.text.specs.Lines.{tab, newline}
use Rattle.text.specs.Room.{fits}
use Rattle.lines.specs.declared.print.Row.{Row}

unfoldable pub row_bytes : Row → List ℕ
row_bytes r = decimal r.number ++ tab ∷ signed r.seconds ++ tab ∷ signed r.offset ++ newline ∷ []

-- how many of these bytes are written to a room: all, or 0 if they do not fit
abbrev pub written_in : List ℕ → List ℕ → ℕ
written_in bytes room = cond (fits bytes room) (length bytes) 0

-- a room of this many bytes has space for every answer line
abbrev pub answer_room : ℕ
answer_room = 64
