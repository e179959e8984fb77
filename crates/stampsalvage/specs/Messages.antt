-- What `stampsalvage` says of a line that is dropped (RULES 16), as bytes: `BOOK:3: 17 bytes dropped`. In order: where the line is; how many
-- bytes it has; the message. A row of the report is a line's number, a tab and its length without the newline, both in plain decimal.
-- Assumes nothing.
use Rattle.std.specs.Prelude.{ℕ, cond, List, ◌++◌, take}
use Rattle.text.specs.Bytes.{same}
use Rattle.text.specs.Lines.{field, rest}
use Rattle.text.specs.Quote.{bytes}

-- the number of a line, behind the name
abbrev pub place_words : List ℕ → List ℕ
place_words number = bytes ":" ++ number ++ bytes ": "

-- one byte, or several
abbrev pub dropped_words : List ℕ → List ℕ
dropped_words size = cond (same size (bytes "1")) (bytes " byte dropped\n") (bytes " bytes dropped\n")

-- how many bytes were dropped
abbrev pub size_words : List ℕ → List ℕ
size_words size = size ++ dropped_words size

-- the message on a row. A name is cut at 4,096 bytes, which is the most that an argument has
unfoldable pub message_of : List ℕ → List ℕ → List ℕ
message_of name row = take 4096 name ++ (place_words (field row) ++ size_words (rest row))
