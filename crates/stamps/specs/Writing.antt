-- A line written from its values (RULES 13.12): its bytes, which values are read back from them, and what a call returns that writes the line
-- with its newline.
-- Assumes nothing.
use Rattle.std.specs.Prelude.{ℕ, Bool, true, false, cond, not, ◌&&◌, List, [], ◌∷◌, ◌++◌, ltb, nat_abs, length, Err, Ok, Result, Some}
use Rattle.text.specs.Quote.{bytes}
use Rattle.text.specs.Decimal.{signed}
use Rattle.text.specs.Places.{has}
use Rattle.text.specs.Lines.{tab, newline}
use Rattle.text.specs.Room.{fits}
use Rattle.time.specs.Header.{header_bytes}
use Rattle.time.specs.declared.Time.{Time}
use Rattle.time.specs.declared.Refusal.TheVariants.{Room, Book}
use Rattle.relative.specs.Relative.{relative_of}
use Rattle.stamps.specs.Stamps.{is_whole_minutes}
use Rattle.stamps.specs.Lines.{is_path, is_key}
use Rattle.time.specs.declared.Refusal.{Refusal}

-- `hull`, path, key, time
unfoldable pub hull_line : List ℕ → List ℕ → Time → List ℕ
hull_line path key t = bytes "hull" ++ tab ∷ path ++ tab ∷ key ++ tab ∷ header_bytes t

-- `since`, text, current seconds, current offset
unfoldable pub since_line : List ℕ → Time → List ℕ
since_line text current = bytes "since" ++ tab ∷ text ++ tab ∷ signed current.seconds ++ tab ∷ signed current.offset

-- a line with its newline
abbrev pub ended : List ℕ → List ℕ
ended l = l ++ newline ∷ []

-- the values of a hull that are read back from the line that they make: a path, a key, and a time whose offset is whole minutes under 100
-- hours
unfoldable pub is_hull : List ℕ → List ℕ → Time → Bool
is_hull path key t = is_path path && is_key key && (is_whole_minutes t.offset && ltb (nat_abs t.offset) 360000)

-- whether a text is read
abbrev pub is_read : Result Time Refusal → Bool
is_read (Ok t) = true
is_read (Err r) = false

-- those of a cut-off: a text without tab and newline that is read at the current time
unfoldable pub is_since : ℕ → List ℕ → Time → Bool
is_since bound text current = not (has tab text) && not (has newline text) && is_read (relative_of bound text (Some current))

-- refused by 10 if the values would not be read back, then by 8 if the room is too short
abbrev pub line_written : Bool → List ℕ → List ℕ → Result ℕ Refusal
line_written good l room = cond good (cond (fits (ended l) room) (Ok (length (ended l))) (Err Room)) (Err Book)

unfoldable pub hull_written : List ℕ → List ℕ → Time → List ℕ → Result ℕ Refusal
hull_written path key t room = line_written (is_hull path key t) (hull_line path key t) room

unfoldable pub since_written : ℕ → List ℕ → Time → List ℕ → Result ℕ Refusal
since_written bound text current room = line_written (is_since bound text current) (since_line text current) room
