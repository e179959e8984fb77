-- Examples of merges (RULES 15), worked out by hand and computed, as one table: each is under the words that it shows.
-- Assumes nothing.
use Rattle.std.specs.Prelude.{None, Option, Some, Ok, Result}
use Prim.Native.Nat.{ℕ}
use Prim.Native.String.{String}
use mathlib.Core.Path.{◌≡◌, refl}
use mathlib.Core.List.{List, [], ◌∷◌, ◌++◌}
use Rattle.text.specs.Bytes.{is_space, is_digit, is_alphanumeric, is_sign, lower_of, ascii, same, same_letters}
use Rattle.text.specs.Trim.{trim, trim_end, trim_start}
use Rattle.text.specs.Words.{words, pieces, full}
use Rattle.text.specs.Quote.{bytes}
use Rattle.text.specs.Decimal.{digits_up_to, decimal, signed, signed_before}
use Rattle.text.specs.Places.{run, first_place, has}
use Rattle.text.specs.Number.{read_from, digits_of, unsigned_of, signed_of, fit, fit_signed}
use Rattle.time.specs.Header.{header_bytes, header_sign, sign_byte, whole_minutes}
use Rattle.time.specs.Range.{seconds_in_range, offset_in_range, time_in_range}
use Rattle.header.specs.Offset.{five_or_seven, field_of, last_field, fields_of, offset_of}
use Rattle.header.specs.Header.{seconds_of, header_offset, header_of_words, header_of}
use Rattle.relative.specs.Words.{words_of, spelled, count_of, singular, unit_named, unit_of}
use Rattle.relative.specs.Pairs.{pairs_from, ago_from, known}
use Rattle.relative.specs.Steps.{landing, landed, step, steps}
use Rattle.relative.specs.Relative.{max_pairs, from, named_of, by_pairs, relative_of}
use Rattle.stamps.specs.Stamps.{printed, is_whole_minutes, stamp_of}
use Rattle.stamps.specs.Lines.{every, is_path_byte, is_path, is_hex_digit, is_key, hull_of, since_of, line_of}
use Rattle.stamps.specs.Book.{judged, lines_in}
use Rattle.text.specs.Lines.{tab, newline, ended_lines, taken_by, left}
use Rattle.compact.specs.Compact.{holds_path}
use Rattle.merge.specs.Lists.{faulty, line_fault, lines_fault, lists_of}
use Rattle.merge.specs.Fronts.{front_of, earlier_machine, fronts_of}
use Rattle.merge.specs.Merge.{merged_lines, last_key, is_differing, reported}
use Rattle.merge.specs.declared.lists.Machine.{Machine}
use Rattle.merge.specs.declared.lists.Machine.TheVariants.{First, Second}
use Rattle.merge.specs.declared.lists.Fault.TheVariants.{BadLine, StepBack}
use Rattle.merge.specs.declared.lists.ListError.{ListError}

-- a line of `hull`, by its path, the last digit of its key and the seconds of its time; and with its newline
abbrev hull : String → String → String → List ℕ
hull path digit seconds = bytes "hull" ++ tab ∷ bytes path ++ tab ∷ bytes "0123456789abcde" ++ bytes digit ++ tab ∷ bytes seconds ++ bytes " +0000"

abbrev line : String → String → String → List ℕ
line path digit seconds = hull path digit seconds ++ newline ∷ []

-- two lists of lines with the merged ones; two lists of lines with the paths that are reported; two front lines with the machine whose is the earlier
-- and what a check says; two lists with what a check says
data Example : Type 0 where
  merges : List (List ℕ) → List (List ℕ) → List (List ℕ) → Example
  reports : List (List ℕ) → List (List ℕ) → List (List ℕ) → Example
  fronts : List ℕ → List ℕ → Option Machine → Result (Unit {0}) ListError → Example
  lists : List ℕ → List ℕ → Result (Unit {0}) ListError → Example

abbrev AllRight : List Example → Type 0
AllRight [] = Unit {0}
AllRight (merges ls ms ks ∷ es) = (merged_lines max_pairs ls ms ≡ ks) × AllRight es
AllRight (reports ls ms ps ∷ es) = (reported max_pairs ls ms [] (merged_lines max_pairs ls ms) ≡ ps) × AllRight es
AllRight (fronts a b m v ∷ es) = (earlier_machine max_pairs a b ≡ m) × (fronts_of max_pairs a b ≡ v) × AllRight es
AllRight (lists a b v ∷ es) = (lists_of max_pairs a b ≡ v) × AllRight es

abbrev examples : List Example
examples =
    -- the same line on both machines is there twice
    merges (hull "a" "0" "1" ∷ []) (hull "a" "0" "1" ∷ []) (hull "a" "0" "1" ∷ hull "a" "0" "1" ∷ [])
    -- ties from the first machine, each machine's lines in their order
    ∷ merges (hull "b" "0" "1" ∷ hull "c" "0" "1" ∷ []) (hull "a" "0" "1" ∷ hull "d" "0" "-5" ∷ []) (hull "b" "0" "1" ∷ hull "c" "0" "1" ∷ hull "a" "0" "1" ∷ hull "d" "0" "-5" ∷ [])
    ∷ merges (hull "b" "0" "2" ∷ []) (hull "a" "0" "-1" ∷ hull "c" "0" "2" ∷ []) (hull "a" "0" "-1" ∷ hull "b" "0" "2" ∷ hull "c" "0" "2" ∷ [])
    -- the last keys count: `a` ends with the same key in both lists, `b` does not
    ∷ reports (hull "a" "0" "1" ∷ hull "b" "0" "2" ∷ hull "a" "1" "3" ∷ []) (hull "b" "1" "1" ∷ hull "a" "1" "2" ∷ []) (bytes "b" ∷ [])
    -- each path once, by its first line in the merged book, from whichever machine: `c` is not in both lists
    ∷ reports (hull "a" "0" "2" ∷ hull "c" "0" "2" ∷ hull "b" "0" "3" ∷ []) (hull "b" "1" "1" ∷ hull "b" "2" "3" ∷ hull "a" "1" "4" ∷ []) (bytes "b" ∷ bytes "a" ∷ [])
    -- the earlier front line, the first machine's on a tie; an empty one loses
    ∷ fronts (line "a" "0" "2") (line "b" "0" "1") (Some Second) (Ok tt)
    ∷ fronts (line "a" "0" "1") (line "b" "0" "1") (Some First) (Ok tt)
    ∷ fronts [] (line "b" "0" "1") (Some Second) (Ok tt)
    ∷ fronts [] [] None (Ok tt)
    -- beside a bad one there is none: no newline, two lines, a `since` line
    ∷ fronts (line "a" "0" "2") (hull "b" "0" "1") None (faulty Second (BadLine 1))
    ∷ fronts (line "a" "0" "2" ++ line "a" "0" "2") [] None (faulty First (BadLine 1))
    ∷ fronts [] (bytes "since" ++ tab ∷ bytes "now" ++ tab ∷ bytes "9" ++ tab ∷ bytes "0" ++ newline ∷ []) None (faulty Second (BadLine 1))
    -- the first line at fault, machine 1 before 2; the last newline may not be missing
    ∷ lists (line "a" "0" "1" ++ line "b" "0" "1") [] (Ok tt)
    ∷ lists (line "a" "0" "2" ++ line "b" "0" "1" ++ bytes "x") (bytes "y") (faulty First (StepBack 2))
    ∷ lists [] (line "a" "0" "2" ++ hull "b" "0" "3") (faulty Second (BadLine 2))
    ∷ []

examples_hold : AllRight examples
unfolding merged_lines reported is_differing last_key earlier_machine fronts_of front_of lists_of lines_fault line_fault lines_in judged ended_lines taken_by left holds_path line_of since_of hull_of is_key is_hex_digit is_path is_path_byte every stamp_of is_whole_minutes printed relative_of by_pairs named_of from steps step landed landing pairs_from ago_from known unit_of unit_named singular count_of spelled words_of header_of header_of_words header_offset seconds_of offset_of fields_of last_field field_of five_or_seven time_in_range offset_in_range seconds_in_range whole_minutes sign_byte header_sign header_bytes fit_signed fit signed_of unsigned_of digits_of read_from has first_place run signed_before signed decimal digits_up_to full pieces words trim_start trim_end trim same_letters same ascii lower_of is_sign is_alphanumeric is_digit is_space
examples_hold = (refl, (refl, (refl, (refl, (refl, (refl, refl, (refl, refl, (refl, refl, (refl, refl, (refl, refl, (refl, refl, (refl, refl, (refl, (refl, (refl, tt)))))))))))))))
