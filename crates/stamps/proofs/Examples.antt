-- Examples of RULES 13, computed: each is under the words that it shows. In order: stamps; printed numbers.
-- Assumes nothing.
use Rattle.std.specs.Prelude.{None, Option, Some, ℤ}
use Prim.Native.Nat.{◌-◌, ◌^◌}
use Prim.Native.String.{String}
use mathlib.Core.Path.{◌≡◌, refl}
use mathlib.Core.Bool.{true}
use mathlib.Core.List.{List, [], ◌∷◌}
use lib.IntN.{pos, negsuc}
use Rattle.text.specs.Bytes.{is_space, is_digit, is_sign, ascii, same}
use Rattle.text.specs.Places.{run, first_place, has}
use Rattle.text.specs.Words.{words, pieces, full}
use Rattle.text.specs.Quote.{bytes}
use Rattle.text.specs.Decimal.{digits_up_to, decimal, signed, signed_before}
use Rattle.text.specs.Number.{read_from, digits_of, unsigned_of, signed_of, fit_signed}
use Rattle.time.specs.Answers.{time_at, time_marked}
use Rattle.time.specs.Header.{header_bytes, header_sign, sign_byte, whole_minutes}
use Rattle.header.specs.Offset.{five_or_seven, field_of, last_field, fields_of, offset_of}
use Rattle.header.specs.Header.{seconds_of, header_offset, header_of_words, header_of}
use Rattle.stamps.specs.Stamps.{printed, is_whole_minutes, stamp_of}
use Rattle.time.specs.declared.Time.{Time}

-- ---- stamps
-- a text, and its stamp
data StampExample : Type 0 where
  means : String → Option Time → StampExample

abbrev AllStamps : List StampExample → Type 0
AllStamps [] = Unit {0}
AllStamps (means s x ∷ es) = (stamp_of (bytes s) ≡ x) × AllStamps es

abbrev stamps : List StampExample
stamps =
    means "5 +0130" (Some (time_at (pos 5) (pos 5400)))
    ∷ means "-5 -0130" (Some (time_at (negsuc 4) (negsuc 5399)))
    ∷ means "0 +0000" (Some (time_at (pos 0) (pos 0)))
    -- the header writer has no range of its own: any 64-bit seconds, and any offset under 100 hours
    ∷ means "9223372036854775807 +9959" (Some (time_at (pos (2 ^ 63 - 1)) (pos 359940)))
    ∷ means "-9223372036854775808 -9959" (Some (time_at (negsuc (2 ^ 63 - 1)) (negsuc 359939)))
    ∷ means "9223372036854775808 +0000" None
    -- seconds in the offset are read, but never written
    ∷ means "5 +013000" None
    ∷ means "5 +013030" None
    -- `-0000` is written for offset 0 with the mark, and read so; in seven bytes it is read alike, but never written
    ∷ means "5 -0000" (Some (time_marked (pos 5) (pos 0) true))
    ∷ means "5 -000000" None
    -- zeros in front, a `+`, and the sign of 0 are read, but never written
    ∷ means "05 +0000" None
    ∷ means "+5 +0000" None
    ∷ means "-0 +0000" None
    ∷ means "-0 -0000" None
    -- 60 minutes are read as an hour, and written so
    ∷ means "5 +0160" None
    ∷ means "5 +9960" None
    -- a field may have a sign of its own when it is read
    ∷ means "5 +01-5" None
    -- one space, and nothing in front or behind
    ∷ means "5  +0000" None
    ∷ means "5 +0000 " None
    ∷ means " 5 +0000" None
    -- without an offset the header reader reads offset 0
    ∷ means "5" None
    ∷ means "5 " None
    ∷ means "5 +0000 x" None
    ∷ means "12abc +0100" None
    ∷ means "" None
    ∷ []

stamp_examples : AllStamps stamps
unfolding is_space is_digit is_sign ascii same run first_place has words pieces full read_from digits_of unsigned_of signed_of fit_signed digits_up_to decimal signed signed_before header_bytes header_sign sign_byte whole_minutes five_or_seven field_of last_field fields_of offset_of seconds_of header_offset header_of_words header_of is_whole_minutes stamp_of
stamp_examples = (refl, (refl, (refl, (refl, (refl, (refl, (refl, (refl, (refl, (refl, (refl, (refl, (refl, (refl, (refl, (refl, (refl, (refl, (refl, (refl, (refl, (refl, (refl, (refl, (refl, tt)))))))))))))))))))))))))

-- ---- printed numbers
abbrev number : String → Option ℤ
number s = printed (bytes s)

printed_examples : (number "5" ≡ Some (pos 5)) × (number "-5" ≡ Some (negsuc 4)) × (number "0" ≡ Some (pos 0))
    -- "as the header writer prints seconds": no `+`, no zero in front, no sign of 0
    × (number "+5" ≡ None) × (number "05" ≡ None) × (number "-05" ≡ None) × (number "-0" ≡ None) × (number "00" ≡ None)
    × (number "-" ≡ None) × (number "" ≡ None) × (number "5 " ≡ None)
unfolding is_digit same read_from digits_of unsigned_of signed_of digits_up_to decimal signed printed
printed_examples = (refl, refl, refl, refl, refl, refl, refl, refl, refl, refl, refl)
