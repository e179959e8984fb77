-- The three forms of a trimmed text (RULES 6.2 to 6.5), and the fields that each reads: a year, a month, a day, a second of the day, an
-- offset. The date need not exist. Places are counted from 0.
-- Assumes nothing.
use Rattle.std.specs.Prelude.{ℕ, Bool, cond, ◌&&◌, ◌||◌, List, [], ◌∷◌, ◌++◌, eqb, ltb, length, get_or, take, drop, None, Option, Some, ℤ}
use Prim.Native.Char.{code}
use Rattle.text.specs.Places.{first_place}
use Rattle.text.specs.Trim.{trim}
use Rattle.iso.specs.Parts.{two, int32}
use Rattle.iso.specs.Cut.{time_text, offset_text}
use Rattle.iso.specs.Clock.{iso_time}
use Rattle.iso.specs.Offset.{iso_offset}
use Rattle.iso.specs.declared.forms.Local.{Local}

-- all five fields, or none
unfoldable pub all_fields : Option ℤ → Option ℤ → Option ℤ → Option ℕ → Option ℤ → Option Local
all_fields (Some y) (Some m) (Some d) (Some c) (Some o) = Some (record { year = y; month = m; day = d; second = c; offset = o })
all_fields (Some y) (Some m) (Some d) (Some c) None = None
all_fields (Some y) (Some m) (Some d) None o = None
all_fields (Some y) (Some m) None c o = None
all_fields (Some y) None d c o = None
all_fields None m d c o = None

-- year, month and day are signed 32-bit fields; s is what follows the `T` or space
unfoldable pub read_fields : List ℕ → List ℕ → List ℕ → List ℕ → Option Local
read_fields y m d s = all_fields (int32 y) (int32 m) (int32 d) (iso_time (time_text (trim s))) (iso_offset (offset_text (trim s)))

-- `T` or space
unfoldable pub is_separator : ℕ → Bool
is_separator b = eqb b (code "T") || eqb b (code " ")

-- flexible: dashes at places 4 and 7, and a `T` or a space at place 10
unfoldable pub flexible : List ℕ → Option Local
flexible s =
    cond (eqb (get_or s 4 0) (code "-") && (eqb (get_or s 7 0) (code "-") && is_separator (get_or s 10 0)))
    (read_fields (take 4 s) (two 5 s) (two 8 s) (drop 11 s)) None

-- the first b is at place i
unfoldable pub first_at : ℕ → ℕ → List ℕ → Bool
first_at b i s = eqb (first_place b s) i && ltb i (length s)

-- compact: the first `T` is at place 8
unfoldable pub compact : List ℕ → Option Local
compact s = cond (first_at (code "T") 8 s) (read_fields (take 4 s) (two 4 s) (two 6 s) (drop 9 s)) None

-- dots read as dashes
unfoldable pub dash_of : ℕ → ℕ
dash_of b = cond (eqb b (code ".")) (code "-") b

unfoldable pub dashes : List ℕ → List ℕ
dashes [] = []
dashes (b ∷ s) = dash_of b ∷ dashes s

-- ten bytes before the first space, with dots at places 4 and 7
unfoldable pub is_dotted : List ℕ → Bool
is_dotted s = first_at (code " ") 10 s && (eqb (get_or s 4 0) (code ".") && eqb (get_or s 7 0) (code "."))

-- dotted: all dots among those ten are read as dashes, and the text is then read as flexible
unfoldable pub dotted : List ℕ → Option Local
dotted s = cond (is_dotted s) (flexible (dashes (take 10 s) ++ drop 10 s)) None

-- the first form whose fields are there; any order gives the same, since at most one has them: `one-form_has_fields`
unfoldable pub first_of : Option Local → Option Local → Option Local
first_of (Some f) g = Some f
first_of None g = g

unfoldable pub form_of : List ℕ → Option Local
form_of s = first_of (dotted s) (first_of (compact s) (flexible s))
