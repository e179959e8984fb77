-- Headers (RULES 5.1 to 5.5), such as `1745582210 +0200`: seconds since 1970 and an offset in seconds. Two examples: `12abc` is
-- 12 at offset 0, and `5 +00-5` is 5 at offset -300.
-- Assumes nothing.
use Rattle.std.specs.Prelude.{ℕ, ◌^◌, cond, List, [], ◌∷◌, pos, get_or, Err, None, Ok, Option, Result, Some, ℤ}
use Prim.Native.Char.{code}
use Rattle.text.specs.Bytes.{is_space, is_digit, ascii}
use Rattle.text.specs.Places.{has, leading}
use Rattle.text.specs.Words.{words}
use Rattle.text.specs.Number.{signed_of, fitted_signed}
use Rattle.time.specs.Answers.{time_at}
use Rattle.time.specs.declared.Refusal.TheVariants.{NotAscii, Form, TooLarge as NumberTooLarge}
use Rattle.header.specs.Offset.{only_word, fields_of, read_time, Signed}
use Rattle.text.specs.declared.number.NumberError.TheVariants.{TooLarge, NoNumber}
use Rattle.header.specs.declared.offset.Fields.{Fields}
use Rattle.text.specs.declared.number.NumberError.{NumberError}
use Rattle.time.specs.declared.Refusal.{Refusal}
use Rattle.time.specs.declared.Time.{Time}

-- a 64-bit number (RULES 4.2), or one that is too large for 64 bits (RULES 4.7)
abbrev pub number64 : List ℕ → Result ℤ NumberError
number64 w = fitted_signed (2 ^ 63) (signed_of w)

-- the first if it is a number, or too large for one; else the other
abbrev pub number_or : Result ℤ NumberError → Result ℤ NumberError → Result ℤ NumberError
number_or (Ok z) other = Ok z
number_or (Err TooLarge) other = Err TooLarge
number_or (Err NoNumber) other = other

-- RULES 5.2 and 5.9: the first word is a 64-bit number or too large for one, or else its leading digits are
unfoldable pub seconds_of : List ℕ → Result ℤ NumberError
seconds_of w = number_or (number64 w) (number64 (leading is_digit w))

-- RULES 5.4: a second word is an offset if it has 5 or 7 bytes, of which the first is a sign and the second a digit, and if its
-- two-byte fields are signed numbers
unfoldable pub header_offset : List ℕ → Option Fields
header_offset w = cond (is_digit (get_or w 1 0)) (fields_of Signed w) None

-- RULES 5.2, 5.4 and 5.9: without a number the answer is 2, with one that is too large it is 11; without an offset, the offset is
-- 0, which is not a refusal
abbrev pub header_time : Result ℤ NumberError → Option Fields → Result Time Refusal
header_time (Ok s) (Some f) = Ok (read_time s f)
header_time (Ok s) None = Ok (time_at s (pos 0))
header_time (Err TooLarge) p = Err NumberTooLarge
header_time (Err NoNumber) p = Err Form

-- RULES 5.3: without a second word, or with a third, the offset is 0. Without any word the answer is 2
unfoldable pub header_of_words : List (List ℕ) → Result Time Refusal
header_of_words [] = Err Form
header_of_words (w ∷ ws) = header_time (seconds_of w) (header_offset (only_word ws))

-- a byte of 128 or more is 1 (RULES 2.1); then a `:` anywhere is 2 (RULES 5.1)
unfoldable pub header_of : List ℕ → Result Time Refusal
header_of s = cond (ascii s) (cond (has (code ":") s) (Err Form) (header_of_words (words is_space s))) (Err NotAscii)
