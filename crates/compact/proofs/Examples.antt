-- Examples of compacted books (RULES 13.15), worked out by hand and computed, as one table: each is under the words that it shows.
-- Assumes nothing.
use Prim.Native.Nat.{ℕ}
use Prim.Native.String.{String}
use mathlib.Core.Path.{◌≡◌, refl}
use mathlib.Core.List.{List, [], ◌∷◌, ◌++◌}
use Rattle.text.specs.Bytes.{is_space, is_digit, is_alphanumeric, is_sign, lower_of, ascii, same, same_letters}
use Rattle.text.specs.Trim.{trim, trim_end, trim_start}
use Rattle.text.specs.Words.{words, pieces, full}
use Rattle.text.specs.Quote.{bytes}
use Rattle.text.specs.Decimal.{digits_up_to, decimal, signed, signed_before}
use Rattle.text.specs.Places.{run, first_place, has}
use Rattle.text.specs.Number.{read_from, digits_of, unsigned_of, signed_of, fit, fit_signed}
use Rattle.text.specs.Lines.{tab}
use Rattle.time.specs.Header.{header_bytes, header_sign, sign_byte, whole_minutes}
use Rattle.time.specs.Range.{seconds_in_range, offset_in_range, time_in_range}
use Rattle.header.specs.Offset.{five_or_seven, field_of, last_field, fields_of, offset_of}
use Rattle.header.specs.Header.{seconds_of, header_offset, header_of_words, header_of}
use Rattle.relative.specs.Words.{words_of, spelled, count_of, singular, unit_named, unit_of}
use Rattle.relative.specs.Pairs.{pairs_from, ago_from, known}
use Rattle.relative.specs.Steps.{landing, landed, step, steps}
use Rattle.relative.specs.Relative.{max_pairs, from, named_of, by_pairs, relative_of}
use Rattle.stamps.specs.Stamps.{printed, is_whole_minutes, stamp_of}
use Rattle.stamps.specs.Lines.{every, is_path_byte, is_path, is_hex_digit, is_key, hull_of, since_of, line_of}
use Rattle.compact.specs.Compact.{holds_path, kept}

-- a line of `hull`, by its path and the seconds of its time, and a line of `since`
abbrev hull : String → String → List ℕ
hull path seconds = bytes "hull" ++ tab ∷ bytes path ++ tab ∷ bytes "0123456789abcdef" ++ tab ∷ bytes seconds ++ bytes " +0000"

abbrev since : String → List ℕ
since text = bytes "since" ++ tab ∷ bytes text ++ tab ∷ bytes "9" ++ tab ∷ bytes "0"

-- the lines of a book, and those that are kept
data Example : Type 0 where
  keeps : List (List ℕ) → List (List ℕ) → Example

abbrev AllRight : List Example → Type 0
AllRight [] = Unit {0}
AllRight (keeps ls those ∷ es) = (kept max_pairs ls ≡ those) × AllRight es

abbrev books : List Example
books =
    keeps [] []
    -- for each path its last line stays, at its own place: not the first one, and not at the place of the first one
    ∷ keeps (hull "a" "1" ∷ hull "b" "2" ∷ hull "a" "3" ∷ []) (hull "b" "2" ∷ hull "a" "3" ∷ [])
    -- the last line in the book, not the latest by its time
    ∷ keeps (hull "a" "3" ∷ hull "a" "1" ∷ []) (hull "a" "1" ∷ [])
    -- a line that comes twice is kept once
    ∷ keeps (hull "a" "1" ∷ hull "a" "1" ∷ []) (hull "a" "1" ∷ [])
    -- a path is compared whole, in its letter case
    ∷ keeps (hull "a" "1" ∷ hull "ab" "1" ∷ hull "A" "1" ∷ []) (hull "a" "1" ∷ hull "ab" "1" ∷ hull "A" "1" ∷ [])
    -- every line of `since` stays, also one that comes twice, and also if its text is a path
    ∷ keeps (since "now" ∷ hull "now" "1" ∷ since "now" ∷ hull "now" "2" ∷ since "now" ∷ []) (since "now" ∷ since "now" ∷ hull "now" "2" ∷ since "now" ∷ [])
    ∷ []

kept_examples : AllRight books
unfolding kept holds_path line_of since_of hull_of is_key is_hex_digit is_path is_path_byte every stamp_of is_whole_minutes printed relative_of by_pairs named_of from steps step landed landing pairs_from ago_from known unit_of unit_named singular count_of spelled words_of header_of header_of_words header_offset seconds_of offset_of fields_of last_field field_of five_or_seven time_in_range offset_in_range seconds_in_range whole_minutes sign_byte header_sign header_bytes fit_signed fit signed_of unsigned_of digits_of read_from has first_place run signed_before signed decimal digits_up_to full pieces words trim_start trim_end trim same_letters same ascii lower_of is_sign is_alphanumeric is_digit is_space
kept_examples = (refl, (refl, (refl, (refl, (refl, (refl, tt))))))
