-- Examples of RULES 4, 9 and 10, computed: each is under the words that it shows.
-- Assumes nothing.
use Rattle.std.specs.Prelude.{Err, None, Some}
use mathlib.Core.Path.{◌≡◌, refl}
use mathlib.Core.Bool.{true, false}
use mathlib.Core.List.{[], ◌∷◌, ◌++◌}
use Prim.Native.Nat.{◌^◌, ◌-◌}
use lib.IntN.{pos, negsuc}
use Rattle.text.specs.Bytes.{is_space, is_digit, is_alphanumeric, lower_of, ascii, same_letters}
use Rattle.text.specs.Quote.{bytes}
use Rattle.text.specs.Places.{run, first_place, last_where, last_place, leading, no}
use Rattle.text.specs.Trim.{trim, trim_end, trim_start}
use Rattle.text.specs.Words.{words, pieces, full}
use Rattle.text.specs.Number.{read_from, digits_of, unsigned_of, signed_of, fitted, fitted_signed, fit, fit_signed}
use Rattle.text.specs.Lines.{lines_of, ended_lines}
use Rattle.text.specs.Decimal.{digits_up_to, decimal, signed}
use Rattle.text.specs.Room.{fits, fit_both, room_after}
use Rattle.text.specs.declared.number.NumberError.TheVariants.{TooLarge as TooLargeNumber, NoNumber}

-- RULES 4.1, "the bytes 9 to 13 and 32": 11 is white space; 8, 14 and 31 are not
byte_11_is_space : is_space 11 ≡ true
unfolding is_space
byte_11_is_space = refl

bytes_8_14_31_are_not : (is_space 8 ≡ false) × (is_space 14 ≡ false) × (is_space 31 ≡ false)
unfolding is_space
bytes_8_14_31_are_not = (refl, refl, refl)

-- RULES 2.1, "a byte of 128 or more"
byte_128 : ascii (127 ∷ []) ≡ true × ascii (128 ∷ []) ≡ false
unfolding ascii
byte_128 = (refl, refl)

-- RULES 6.1, "trimmed of white space"
trimmed : trim (9 ∷ 11 ∷ bytes " 5 x " ++ 13 ∷ []) ≡ bytes "5 x"
unfolding trim trim_end trim_start is_space
trimmed = refl

trimmed_to_nothing : trim (bytes "  ") ≡ []
unfolding trim trim_end trim_start is_space
trimmed_to_nothing = refl

-- words separated by white space; and words that are runs of ASCII letters and digits (RULES 7.2)
words_of_a_header : words is_space (bytes " 1745582210 +0200 ") ≡ bytes "1745582210" ∷ bytes "+0200" ∷ []
unfolding words pieces full is_space
words_of_a_header = refl

words_of_a_relative_date : words (no is_alphanumeric) (bytes "-5.days, ago") ≡ bytes "5" ∷ bytes "days" ∷ bytes "ago" ∷ []
unfolding words pieces full is_alphanumeric
words_of_a_relative_date = refl

-- RULES 7.2, "compared in any letter case"
any_letter_case : same_letters (bytes "YesTerDay") (bytes "yesterday") ≡ true
unfolding same_letters lower_of
any_letter_case = refl

-- `@` and backquote differ by 32, as a capital letter and its small letter do, but they are no letters
no_letters : same_letters (bytes "@") (bytes "`") ≡ false
unfolding same_letters lower_of
no_letters = refl

-- RULES 4.2, "digits only, at least one"
no_digit : unsigned_of (bytes "+") ≡ None × unsigned_of [] ≡ None × unsigned_of (bytes "1 ") ≡ None
unfolding unsigned_of digits_of read_from is_digit
no_digit = (refl, refl, refl)

-- RULES 4.3, "so `-0` is not one", though it is a signed number
minus-zero : unsigned_of (bytes "-0") ≡ None × signed_of (bytes "-0") ≡ Some (pos 0)
unfolding signed_of unsigned_of digits_of read_from is_digit
minus-zero = (refl, refl)

-- RULES 4.4, "leading zeros are allowed"
leading_zeros : unsigned_of (bytes "+0000000000000000000000000000000000000005") ≡ Some 5
unfolding unsigned_of digits_of read_from is_digit
leading_zeros = refl

-- RULES 4.2, "whose value fits the width": 255 is an unsigned number of 8 bits, 256 is none
eight_bits : fit 255 (unsigned_of (bytes "255")) ≡ Some 255 × fit 255 (unsigned_of (bytes "256")) ≡ None
unfolding fit unsigned_of digits_of read_from is_digit
eight_bits = (refl, refl)

-- 64 signed bits: -2^63 is a number and one less is none; 2^63 - 1 is a number and one more is none
least : fit_signed (2 ^ 63) (signed_of (bytes "-9223372036854775808")) ≡ Some (negsuc (2 ^ 63 - 1))
unfolding fit_signed signed_of digits_of read_from is_digit
least = refl

below_least : fit_signed (2 ^ 63) (signed_of (bytes "-9223372036854775809")) ≡ None
unfolding fit_signed signed_of digits_of read_from is_digit
below_least = refl

most : fit_signed (2 ^ 63) (signed_of (bytes "9223372036854775807")) ≡ Some (pos (2 ^ 63 - 1))
unfolding fit_signed signed_of unsigned_of digits_of read_from is_digit
most = refl

above_most : fit_signed (2 ^ 63) (signed_of (bytes "9223372036854775808")) ≡ None
unfolding fit_signed signed_of unsigned_of digits_of read_from is_digit
above_most = refl

-- RULES 4.7, "a number but for its value": one less and one more are too large, and so is 256 for 8 bits. With a byte that is no
-- digit behind it, no number is too large
too_large_signed : fitted_signed (2 ^ 63) (signed_of (bytes "-9223372036854775809")) ≡ (Err TooLargeNumber) × fitted_signed (2 ^ 63) (signed_of (bytes "9223372036854775808")) ≡ (Err TooLargeNumber)
unfolding signed_of unsigned_of digits_of read_from is_digit
too_large_signed = (refl, refl)

too_large : fitted 255 (unsigned_of (bytes "256")) ≡ (Err TooLargeNumber)
unfolding unsigned_of digits_of read_from is_digit
too_large = refl

not-too_large : fitted_signed (2 ^ 63) (signed_of (bytes "99999999999999999999x")) ≡ (Err NoNumber)
unfolding signed_of unsigned_of digits_of read_from is_digit
not-too_large = refl

-- RULES 5.2, "its leading digits"
leading_digits : leading is_digit (bytes "12abc3") ≡ bytes "12"
unfolding run is_digit
leading_digits = refl

-- the first and the last place of a byte; if the text does not hold it, the length of the text
first-and-last : first_place 58 (bytes "20:30:45") ≡ 2 × last_place 58 (bytes "20:30:45") ≡ 5 × first_place 46 (bytes "20:30:45") ≡ 8 × last_place 46 (bytes "20:30:45") ≡ 8
unfolding first_place last_place last_where run
first-and-last = (refl, refl, refl, refl)

-- RULES 9.1, "plain decimal"
plain_decimal : decimal 1745582210 ≡ bytes "1745582210" × decimal 10 ≡ bytes "10" × decimal 0 ≡ bytes "0"
unfolding decimal digits_up_to
plain_decimal = (refl, refl, refl)

signed_decimal : signed (negsuc (2 ^ 63 - 1)) ≡ bytes "-9223372036854775808" × signed (pos 5) ≡ bytes "5"
unfolding signed decimal digits_up_to
signed_decimal = (refl, refl)

-- RULES 10.1, "A last line may lack its end"; after a newline at the very end no line begins
lines-and-ends : lines_of (bytes "a" ++ 10 ∷ bytes "bc") ≡ bytes "a" ∷ bytes "bc" ∷ [] × lines_of (bytes "a" ++ 10 ∷ 10 ∷ []) ≡ bytes "a" ∷ [] ∷ [] × ended_lines (bytes "a" ++ 10 ∷ bytes "bc") ≡ bytes "a" ∷ []
unfolding lines_of ended_lines
lines-and-ends = (refl, refl, refl)

-- RULES 9.3, "bytes beyond them stay as they were"
room_written : room_after (fits (bytes "ab") (bytes "wxyz")) (bytes "ab") (bytes "wxyz") ≡ bytes "abyz"
room_written = refl

-- a buffer that is too short stays as it was
room_too_short : room_after (fits (bytes "abc") (bytes "yz")) (bytes "abc") (bytes "yz") ≡ bytes "yz"
room_too_short = refl

-- two buffers, of which the second is too short: neither changes
neither_room_changes : room_after (fit_both (bytes "a") (bytes "xyz") (bytes "bc") (bytes "z")) (bytes "a") (bytes "xyz") ≡ bytes "xyz" × room_after (fit_both (bytes "a") (bytes "xyz") (bytes "bc") (bytes "z")) (bytes "bc") (bytes "z") ≡ bytes "z"
neither_room_changes = (refl, refl)
