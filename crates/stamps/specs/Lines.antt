-- A line of a book, judged alone (RULES 13.2 to 13.7). A line is given without its newline. Its fields have tabs between: `hull`, path, key,
-- time; or `since`, text, current seconds, current offset. A field that is missing is read as the empty text, which is no key, no stamp
-- and no number. The bound on the pairs of a relative date is a parameter.
-- Assumes nothing.
use Rattle.std.specs.Prelude.{ℕ, ◌+◌, Bool, true, false, cond, ◌&&◌, ◌||◌, List, [], ◌∷◌, leb, ltb, eqb, length, Err, None, Ok, Option, Result, Some, ℤ}
use Prim.Native.Char.{code}
use Rattle.text.specs.Bytes.{between, is_digit, same}
use Rattle.text.specs.Quote.{bytes}
use Rattle.text.specs.Places.{has}
use Rattle.text.specs.Lines.{newline, field, rest}
use Rattle.text.specs.declared.words.Span.{Span}
use Rattle.time.specs.Answers.{time_at}
use Rattle.time.specs.declared.Time.{Time as TimeValue}
use Rattle.relative.specs.Relative.{relative_of}
use Rattle.stamps.specs.Stamps.{printed, stamp_of}
use Rattle.stamps.specs.declared.line.Line.{Line}
use Rattle.stamps.specs.declared.line.Line.TheVariants.{Hull, Since}
use Rattle.time.specs.declared.Refusal.{Refusal}
use Rattle.time.specs.declared.Time.{Time}

-- whether every byte satisfies p
unfoldable pub every : (ℕ → Bool) → List ℕ → Bool
every p [] = true
every p (b ∷ s) = p b && every p s

-- RULES 13.3: a path is 1 to 255 bytes from 32 to 126
unfoldable pub is_path_byte : ℕ → Bool
is_path_byte b = between 32 126 b

unfoldable pub is_path : List ℕ → Bool
is_path s = ltb 0 (length s) && leb (length s) 255 && every is_path_byte s

-- RULES 13.4: a key is 16 lower-case hexadecimal digits
unfoldable pub is_hex_digit : ℕ → Bool
is_hex_digit b = is_digit b || between (code "a") (code "f") b

unfoldable pub is_key : List ℕ → Bool
is_key s = eqb (length s) 16 && every is_hex_digit s

-- where a field is: it begins at a place of its line
abbrev pub span_at : ℕ → List ℕ → Span
span_at start s = record { start = start; end = start + length s }

-- the line of `hull` with this path, this key and this stamp. Its path begins at place 5, its key behind the tab that follows the path
abbrev pub hull_at : List ℕ → List ℕ → Option Time → Option Line
hull_at path key (Some t) = Some (Hull (record { path = span_at 5 path; key = span_at (5 + length path + 1) key; time = t }))
hull_at path key None = None

unfoldable pub hull_of : List ℕ → List ℕ → List ℕ → Option Line
hull_of path key time = cond (is_path path && is_key key) (hull_at path key (stamp_of time)) None

-- the line of `since` whose text, which begins at place 6, has this answer at this current time
abbrev pub since_at : List ℕ → TimeValue → Result Time Refusal → Option Line
since_at text current (Ok t) = Some (Since (record { text = span_at 6 text; current = current; cut_off = t }))
since_at text current (Err r) = None

-- RULES 13.6: both numbers are printed as the header writer prints seconds; RULES 13.7: the text is a relative date that is read at that
-- current time
abbrev pub since_with : ℕ → List ℕ → Option ℤ → Option ℤ → Option Line
since_with bound text (Some z) (Some o) = since_at text (time_at z o) (relative_of bound text (Some (time_at z o)))
since_with bound text (Some z) None = None
since_with bound text None o = None

unfoldable pub since_of : ℕ → List ℕ → List ℕ → List ℕ → Option Line
since_of bound text seconds offset = since_with bound text (printed seconds) (printed offset)

-- RULES 13.2: a line by its first field. A text that holds a newline is no line
unfoldable pub line_of : ℕ → List ℕ → Option Line
line_of bound l =
    let second = field (rest l) in
    let third = field (rest (rest l)) in
    let fourth = rest (rest (rest l)) in
    cond (has newline l) None
    (cond (same (field l) (bytes "hull")) (hull_of second third fourth)
    (cond (same (field l) (bytes "since")) (since_of bound second third fourth) None))

-- whether a line is good
abbrev pub is_good : Option Line → Bool
is_good (Some (Hull h)) = true
is_good (Some (Since x)) = true
is_good None = false
