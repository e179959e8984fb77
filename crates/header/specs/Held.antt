-- What the code holds on the way to an answer: fields that are small enough to add up, the number at the front of the first word,
-- the usual form, and what one pass over a text finds. Nothing here is needed to read what `parse_header` and `parse_raw` ensure.
-- Assumes nothing.
use Rattle.std.specs.Prelude.{ℕ, ◌+◌, ◌-◌, ◌*◌, ◌^◌, ◌≡◌, Bool, true, false, cond, ◌&&◌, List, [], eqb, pos, negsuc, length, get_or, drop, Err, None, Ok, Option, Result, Some, ℤ}
use Prim.Native.Char.{code}
use Rattle.ints.specs.Range.{In}
use Rattle.text.specs.Bytes.{is_space, is_digit, is_sign, ascii}
use Rattle.text.specs.Places.{run, no, past, has, part}
use Rattle.text.specs.Words.{words}
use Rattle.text.specs.Number.{LeadsWith, signed_of, unsigned_of, fit, plus}
use Rattle.time.specs.declared.Refusal.{Refusal}
use Rattle.time.specs.declared.Refusal.TheVariants.{Form, TooLarge as NumberTooLarge}
use Rattle.text.specs.declared.number.LeadingInteger.{LeadingInteger}
use Rattle.text.specs.declared.words.Span.{Span}
use Rattle.header.specs.Offset.{second_word_of, fields_of, Field, Signed, Byte}
use Rattle.header.specs.Header.{number64, seconds_of}
use Rattle.header.specs.declared.offset.Fields.{Fields}
use Rattle.header.specs.declared.walk.First.{First}
use Rattle.text.specs.declared.number.NumberError.TheVariants.{TooLarge, NoNumber}
use Rattle.text.specs.declared.number.NumberError.{NumberError}

-- fields that are numbers of two bytes, so that they add up within 32 bits
pub record Small (f : Fields) : Type 0 where
  pub hours_in_range : In (negsuc 98) (pos 99) f.hours
  pub minutes_in_range : In (negsuc 98) (pos 99) f.minutes
  pub seconds_in_range : In (negsuc 98) (pos 99) f.seconds

abbrev pub AllSmall : Option Fields → Type 0
AllSmall (Some f) = Small f
AllSmall None = Unit {0}

-- the number in the two bytes of a field
abbrev pub two_bytes_of : Field → List ℕ → Option ℤ
two_bytes_of Signed w = signed_of w
two_bytes_of Byte w = plus (fit 255 (unsigned_of w))

-- the value of two digits
abbrev pub two_digits : ℕ → ℕ → ℕ
two_digits tens ones = 10 * (tens - code "0") + (ones - code "0")

-- the number at the front of the first word, and where it ends
abbrev pub LeadsWithNumber : List ℕ → LeadingInteger → Type 0
LeadsWithNumber s r = let first = past is_space s 0 in LeadsWith (2 ^ 63) (drop first s) first r

-- whether a number was read, and not one that is too large
abbrev pub is_number : Result ℤ NumberError → Bool
is_number (Ok z) = true
is_number (Err TooLarge) = false
is_number (Err NoNumber) = false

-- why a text without a number is refused
abbrev pub refusal_of : NumberError → Refusal
refusal_of TooLarge = NumberTooLarge
refusal_of NoNumber = Form

-- whether the usual tail begins at a place: a space, a sign, four digits, and nothing more
unfoldable pub is_usual : List ℕ → ℕ → Bool
is_usual s at =
    let byte : ℕ → ℕ = λ i. get_or s (at + i) 0 in
    eqb (length s) (at + 6)
    && (eqb (get_or s at 0) (code " ") && is_sign (byte 1) && (is_digit (byte 2) && is_digit (byte 3)) && (is_digit (byte 4) && is_digit (byte 5)))

-- the fields in that tail
unfoldable pub usual_of : List ℕ → ℕ → Option Fields
usual_of s at = cond (is_usual s at) (fields_of Byte (drop (at + 1) s)) None

-- whether a word ends at a place: white space or the end of the text is there
unfoldable pub ends_at : List ℕ → ℕ → Bool
ends_at s at = eqb (run (no is_space) (drop at s)) 0

abbrev pub bounds_of : ℕ → ℕ → Span
bounds_of start end = record { start = start; end = end }

abbrev pub nowhere : Span
nowhere = bounds_of 0 0

-- the first word; the empty text if there is none, which is no number
abbrev pub first_word : List ℕ → List ℕ
first_word s = get_or (words is_space s) 0 []

abbrev pub has_colon : List ℕ → Bool
has_colon s = has (code ":") s

-- what one pass finds. A `:` ends every scan, so if there is one the bounds of the second word are empty
pub record FirstWords (s : List ℕ) (f : First) : Type 0 where
  pub number_is : f.number ≡ seconds_of (first_word s)
  pub whole_is : cond f.whole f.number (Err NoNumber) ≡ number64 (first_word s)
  pub colon_is : f.colon ≡ has_colon s
  pub offset_is : part s f.offset_word ≡ cond f.colon [] (second_word_of s)

abbrev pub WordsRead : List ℕ → Option First → Type 0
WordsRead s (Some f) = (ascii s ≡ true) × FirstWords s f
WordsRead s None = ascii s ≡ false
