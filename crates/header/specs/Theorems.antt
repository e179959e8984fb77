-- What the theorems about headers and raw dates speak of (docs/PROMISES.md): the seconds that 64 bits hold, and the texts whose
-- number is too large for them; the offsets that a header can give, and a header for each of them; what is read back from the header
-- of a time; headers of the commit's own form; what a raw date is, within any limits; limits within others; the texts on which the raw
-- and the header reader agree. No contract cites these.
-- Assumes nothing.
use Rattle.std.specs.Prelude.{ℕ, ◌-◌, ◌*◌, ◌/◌, ◌^◌, ◌<◌, min, ◌≡◌, Bool, true, false, cond, ◌||◌, List, [], ◌∷◌, ◌⊎◌, ℤ, pos, negsuc, nat_abs, get_or, Ok, Some}
use Prim.Native.Char.{code}
use Rattle.ints.specs.Range.{In, is_in}
use Rattle.text.specs.Bytes.{is_space, is_digit, ascii}
use Rattle.text.specs.Places.{has, leading}
use Rattle.text.specs.Words.{words}
use Rattle.text.specs.Number.{signed_of}
use Rattle.text.specs.Decimal.{signed_before, two_before}
use Rattle.time.specs.Answers.{time_at, time_marked}
use Rattle.time.specs.Header.{sign_byte, is_minus_zero, space, cut_to_minutes}
use Rattle.time.specs.declared.Time.{Time}
use Rattle.header.specs.Offset.{second_word_of, fields_of, offset_of, has_mark, Byte}
use Rattle.header.specs.Header.{number64}
use Rattle.header.specs.Raw.{Limits, allows}
use Rattle.header.specs.declared.offset.Fields.{Fields}

-- the seconds that 64 bits hold
abbrev pub Seconds64 : ℤ → Type 0
Seconds64 z = In (negsuc (2 ^ 63 - 1)) (pos (2 ^ 63 - 1)) z

-- a number but for its value, which 64 bits do not hold (RULES 4.7)
pub record Beyond64 (w : List ℕ) : Type 0 where
  pub value : ℤ
  pub value_is : signed_of w ≡ Some value
  pub beyond : Seconds64 value → ⊥

-- RULES 5.9 of headers: an ASCII text without `:`, of which the first word, or else its leading digits, are too large
pub record HeaderTooLarge (s : List ℕ) : Type 0 where
  pub ascii_is : ascii s ≡ true
  pub no_colon : has (code ":") s ≡ false
  pub first : List ℕ
  pub others : List (List ℕ)
  pub words_are : words is_space s ≡ first ∷ others
  pub too_large : Beyond64 first ⊎ Beyond64 (leading is_digit first)

-- RULES 5.9 of raw dates: an ASCII text of which the first word is too large
pub record RawTooLarge (s : List ℕ) : Type 0 where
  pub ascii_is : ascii s ≡ true
  pub first : List ℕ
  pub others : List (List ℕ)
  pub words_are : words is_space s ≡ first ∷ others
  pub too_large : Beyond64 first

-- the offsets that a header can give: from -362439, which is `-999999`, to 362439
abbrev pub HeaderOffset : ℤ → Type 0
HeaderOffset o = In (negsuc 362438) (pos 362439) o

-- n seconds as hours, minutes and seconds, each at most 99: as many hours as can be, then as many minutes
abbrev pub hours_in : ℕ → ℕ
hours_in n = min (n / 3600) 99

abbrev pub minutes_in : ℕ → ℕ
minutes_in n = min ((n - hours_in n * 3600) / 60) 99

abbrev pub seconds_in : ℕ → ℕ
seconds_in n = n - hours_in n * 3600 - minutes_in n * 60

-- an offset in 7 bytes: a sign, and two digits of each
abbrev pub seven_bytes : ℤ → List ℕ
seven_bytes o = sign_byte o ∷ two_before (hours_in (nat_abs o)) (two_before (minutes_in (nat_abs o)) (two_before (seconds_in (nat_abs o)) []))

-- a header of these seconds and this offset
abbrev pub header_with : ℤ → ℤ → List ℕ
header_with z o = signed_before z (space ∷ seven_bytes o)

-- the time that the header of a time is read as: the offset is cut toward zero to whole minutes. The mark is set for offset 0 so marked
-- and for offsets -59 to -1, which are written `-0000` too
abbrev pub read_back : Time → Time
read_back t = time_marked t.seconds (cut_to_minutes t.offset) (is_minus_zero t || is_in (negsuc 58) (negsuc 0) t.offset)

-- a header of the commit's own form: `<decimal seconds> <sign>HHMM`, with minutes below 60
pub record OwnForm (s : List ℕ) : Type 0 where
  pub seconds : ℤ
  pub seconds_in_range : Seconds64 seconds
  pub minus : Bool
  pub hours : ℕ
  pub hours_lt : hours < 100
  pub minutes : ℕ
  pub minutes_lt : minutes < 60
  pub bytes_are : s ≡ signed_before seconds (space ∷ cond minus (code "-") (code "+") ∷ two_before hours (two_before minutes []))

-- s is a raw date of the time t: ASCII, and two words, a 64-bit number and an offset whose unsigned fields the limits allow
pub record RawDate (l : Limits) (s : List ℕ) (t : Time) : Type 0 where
  pub ascii_is : ascii s ≡ true
  pub first : List ℕ
  pub second : List ℕ
  pub fields : Fields
  pub words_are : words is_space s ≡ first ∷ second ∷ []
  pub number_is : number64 first ≡ Ok t.seconds
  pub fields_are : fields_of Byte second ≡ Some fields
  pub allowed : allows l fields ≡ true
  pub offset_is : offset_of fields ≡ t.offset
  pub mark_is : has_mark fields ≡ t.mark

-- m allows all that l allows
abbrev pub Within : Limits → Limits → Type 0
Within l m = (f : Fields) → allows l f ≡ true → allows m f ≡ true

-- where raw accepts s as t, the two readers agree if the byte after the offset's sign is a digit, or the offset is 0 without the mark
abbrev pub Alike : List ℕ → Time → Type 0
Alike s t = (is_digit (get_or (second_word_of s) 1 0) ≡ true) ⊎ (t ≡ time_at t.seconds (pos 0))
