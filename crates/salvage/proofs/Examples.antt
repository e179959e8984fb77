-- Examples of salvages (RULES 16), worked out by hand and computed, as one table: each is under the words that it shows.
-- Assumes nothing.
use Rattle.std.specs.Prelude.{Result, Ok, Err}
use Prim.Native.Nat.{ℕ}
use Prim.Native.String.{String}
use mathlib.Core.Path.{◌≡◌, refl}
use mathlib.Core.List.{List, [], ◌∷◌, ◌++◌}
use lib.ListN.{replicate}
use Rattle.text.specs.Bytes.{is_space, is_digit, is_alphanumeric, is_sign, lower_of, ascii, same, same_letters}
use Rattle.text.specs.Trim.{trim, trim_end, trim_start}
use Rattle.text.specs.Words.{words, pieces, full}
use Rattle.text.specs.Quote.{bytes}
use Rattle.text.specs.Decimal.{digits_up_to, decimal, signed, signed_before}
use Rattle.text.specs.Places.{run, first_place, has}
use Rattle.text.specs.Number.{read_from, digits_of, unsigned_of, signed_of, fit, fit_signed}
use Rattle.text.specs.Lines.{tab, newline, ended_lines, taken_by, left}
use Rattle.time.specs.Header.{header_bytes, header_sign, sign_byte, whole_minutes}
use Rattle.time.specs.Range.{seconds_in_range, offset_in_range, time_in_range}
use Rattle.time.specs.declared.Refusal.{Refusal}
use Rattle.time.specs.declared.Refusal.TheVariants.{Room}
use Rattle.header.specs.Offset.{five_or_seven, field_of, last_field, fields_of, offset_of}
use Rattle.header.specs.Header.{seconds_of, header_offset, header_of_words, header_of}
use Rattle.relative.specs.Words.{words_of, spelled, count_of, singular, unit_named, unit_of}
use Rattle.relative.specs.Pairs.{pairs_from, ago_from, known}
use Rattle.relative.specs.Steps.{landing, landed, step, steps}
use Rattle.relative.specs.Relative.{max_pairs, from, named_of, by_pairs, relative_of}
use Rattle.stamps.specs.Stamps.{printed, is_whole_minutes, stamp_of}
use Rattle.stamps.specs.Lines.{every, is_path_byte, is_path, is_hex_digit, is_key, hull_of, since_of, line_of}
use Rattle.stamps.specs.Copies.{joined}
use Rattle.salvage.specs.Salvage.{good_lines, salvaged, bad_lines, dropped, last_number, rows_of, report, salvage_of, last_bad}
use Rattle.salvage.specs.declared.Salvaged.{Salvaged}

-- a line of `hull` by its path, without its newline and with it. One whose path is a letter has 31 bytes without it
abbrev hull : String → List ℕ
hull path = bytes "hull" ++ tab ∷ bytes path ++ tab ∷ bytes "0123456789abcdef" ++ tab ∷ bytes "5 +0100"

abbrev line : String → List ℕ
line path = hull path ++ newline ∷ []

-- a line of `since` by its current seconds
abbrev since : String → List ℕ
since seconds = bytes "since" ++ tab ∷ bytes "now" ++ tab ∷ bytes seconds ++ tab ∷ bytes "0" ++ newline ∷ []

-- a row of the report
abbrev row : String → String → List ℕ
row number size = bytes number ++ tab ∷ bytes size ++ newline ∷ []

-- a book with what is kept, the report and the number of the last bad line; a book and two rooms, by their lengths, with what the
-- call returns and the number of the last bad line that it gives
data Example : Type 0 where
  salvages : List ℕ → List ℕ → List ℕ → ℕ → Example
  returns : List ℕ → ℕ → ℕ → Result Salvaged Refusal → ℕ → Example

abbrev AllRight : List Example → Type 0
AllRight [] = Unit {0}
AllRight (salvages book kept rows last ∷ es) = (salvaged max_pairs book ≡ kept) × (report max_pairs book ≡ rows) × (last_number 0 (dropped max_pairs book) ≡ last) × AllRight es
AllRight (returns book room other r last ∷ es) =
    (salvage_of max_pairs book (replicate room 0) (replicate other 0) ≡ r) × (last_bad (salvage_of max_pairs book (replicate room 0) (replicate other 0)) ≡ last) × AllRight es

abbrev examples : List Example
examples =
    -- the empty book has no line
    salvages [] [] [] 0
    -- a good book comes out as it was, also if a line is there twice
    ∷ salvages (line "b" ++ since "5" ++ line "a" ++ line "b") (line "b" ++ since "5" ++ line "a" ++ line "b") [] 0
    -- half a line in the middle is dropped, and the lines around it are kept
    ∷ salvages (line "a" ++ bytes "hull" ++ tab ∷ bytes "b" ++ newline ∷ line "c") (line "a" ++ line "c") (row "2" "6") 2
    -- two halves that run together are one bad line, and both are lost
    ∷ salvages (bytes "hull" ++ tab ∷ bytes "b" ++ tab ∷ bytes "0123456789ab" ++ line "a" ++ line "c") (line "c") (row "1" "50") 1
    -- a last piece without its newline is bad, even if its bytes would do
    ∷ salvages (line "a" ++ hull "b") (line "a") (row "2" "31") 2
    ∷ salvages (hull "a") [] (row "1" "31") 1
    -- empty lines are bad: two newlines are two of them
    ∷ salvages (newline ∷ newline ∷ []) [] (row "1" "0" ++ row "2" "0") 2
    -- rows are in the order of the lines, and good lines are counted too. Here a line has a carriage return, another a number with
    -- a leading zero
    ∷ salvages (hull "a" ++ 13 ∷ newline ∷ line "b" ++ since "05") (line "b") (row "1" "32" ++ row "3" "14") 3
    -- both rooms are just long enough
    ∷ returns (line "a" ++ newline ∷ []) 32 4 (Ok (record { length = 32; report_length = 4; last_bad = 2 })) 2
    -- a room for the report or for the lines that is one byte too short: nothing is written, and there is no last bad line
    ∷ returns (line "a" ++ newline ∷ []) 32 3 (Err Room) 0
    ∷ returns (line "a" ++ newline ∷ []) 31 4 (Err Room) 0
    -- a good book needs no room for the report
    ∷ returns (line "a") 32 0 (Ok (record { length = 32; report_length = 0; last_bad = 0 })) 0
    ∷ []

examples_hold : AllRight examples
unfolding salvage_of report rows_of last_number dropped bad_lines salvaged good_lines joined ended_lines taken_by left line_of since_of hull_of is_key is_hex_digit is_path is_path_byte every stamp_of is_whole_minutes printed relative_of by_pairs named_of from steps step landed landing pairs_from ago_from known unit_of unit_named singular count_of spelled words_of header_of header_of_words header_offset seconds_of offset_of fields_of last_field field_of five_or_seven time_in_range offset_in_range seconds_in_range whole_minutes sign_byte header_sign header_bytes fit_signed fit signed_of unsigned_of digits_of read_from has first_place run signed_before signed decimal digits_up_to full pieces words trim_start trim_end trim same_letters same ascii lower_of is_sign is_alphanumeric is_digit is_space
examples_hold = (refl, refl, refl, (refl, refl, refl, (refl, refl, refl, (refl, refl, refl, (refl, refl, refl, (refl, refl, refl, (refl, refl, refl, (refl, refl, refl, (refl, refl, (refl, refl, (refl, refl, (refl, refl, tt))))))))))))
