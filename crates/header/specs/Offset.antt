-- The word of an offset, as far as headers and raw dates agree on it (RULES 5.4 to 5.7): 5 or 7 bytes, of which the first is a
-- sign, and then two-byte fields: hours, minutes, and with 7 bytes seconds. They differ in the numbers that a field may be. Two
-- examples: `+0130` is 5400, and `-01-5`, whose minutes are -5, is -3300.
-- Assumes nothing.
use Rattle.std.specs.Prelude.{ℕ, Bool, cond, ◌&&◌, ◌||◌, List, [], ◌∷◌, eqb, ℤ, pos, neg_ℤ, ◌+ℤ◌, ◌*ℤ◌, length, take, drop, get_or, None, Option, Some}
use Prim.Native.Char.{code}
use Rattle.ints.specs.Equal.{eq_z}
use Rattle.text.specs.Bytes.{is_space, is_sign}
use Rattle.text.specs.Words.{words}
use Rattle.text.specs.Number.{signed_of, unsigned_of, fit, plus}
use Rattle.time.specs.Answers.{time_marked}
use Rattle.time.specs.declared.Time.{Time}
use Rattle.header.specs.declared.offset.Fields.{Fields}

-- of the words past the first: the second word, if there is no third. Otherwise it is the empty text, which is no offset
abbrev pub only_word : List (List ℕ) → List ℕ
only_word [] = []
only_word (w ∷ []) = w
only_word (w ∷ v ∷ ws) = []

-- the second word of a text, if there is no third
abbrev pub second_word_of : List ℕ → List ℕ
second_word_of s = only_word (drop 1 (words is_space s))

-- 5 or 7 bytes
unfoldable pub five_or_seven : ℕ → Bool
five_or_seven n = eqb n 5 || eqb n 7

-- which numbers a field may be: in a header it is a signed number, in a raw date an unsigned 8-bit one
pub data Field : Type 0 where
  Signed : Field
  Byte : Field

-- the two-byte field at a place: a signed number, or an unsigned 8-bit one
unfoldable pub field_of : Field → List ℕ → ℕ → Option ℤ
field_of Signed w at = signed_of (take 2 (drop at w))
field_of Byte w at = plus (fit 255 (unsigned_of (take 2 (drop at w))))

-- the seconds: a field if there are 7 bytes, otherwise 0
unfoldable pub last_field : Field → List ℕ → Option ℤ
last_field by w = cond (eqb (length w) 7) (field_of by w 5) (Some (pos 0))

-- hours, minutes and seconds after a sign, if all are numbers
abbrev pub together : Bool → Option ℤ → Option ℤ → Option ℤ → Option Fields
together minus (Some h) (Some m) (Some x) = Some (record { minus = minus; hours = h; minutes = m; seconds = x })
together minus None m x = None
together minus (Some h) None x = None
together minus (Some h) (Some m) None = None

-- 5 or 7 bytes, a sign, and the fields
unfoldable pub fields_of : Field → List ℕ → Option Fields
fields_of by w =
    cond (five_or_seven (length w) && is_sign (get_or w 0 0))
    (together (eqb (get_or w 0 0) (code "-")) (field_of by w 1) (field_of by w 3) (last_field by w))
    None

-- the fields in seconds
abbrev sum_of : Fields → ℤ
sum_of f = f.hours *ℤ pos 3600 +ℤ f.minutes *ℤ pos 60 +ℤ f.seconds

-- RULES 5.5: the sign in front belongs to the whole offset
unfoldable pub offset_of : Fields → ℤ
offset_of f = cond f.minus (neg_ℤ (sum_of f)) (sum_of f)

-- RULES 5.10: the mark is set exactly if the offset is 0 behind a `-`
abbrev pub has_mark : Fields → Bool
has_mark f = f.minus && eq_z (offset_of f) (pos 0)

-- the time of these seconds and fields
abbrev pub read_time : ℤ → Fields → Time
read_time s f = time_marked s (offset_of f) (has_mark f)
