-- Examples of books (RULES 13), worked out by hand and computed, as one table: each is under the words that it shows.
-- Assumes nothing.
use Rattle.std.specs.Prelude.{Ok, Result}
use Prim.Native.Nat.{ℕ}
use Prim.Native.String.{String}
use mathlib.Core.Path.{◌≡◌, refl}
use mathlib.Core.List.{List, [], ◌∷◌, ◌++◌}
use Rattle.text.specs.Bytes.{is_space, is_digit, is_alphanumeric, is_sign, lower_of, ascii, same, same_letters}
use Rattle.text.specs.Trim.{trim, trim_end, trim_start}
use Rattle.text.specs.Words.{words, pieces, full}
use Rattle.text.specs.Quote.{bytes}
use Rattle.text.specs.Decimal.{digits_up_to, decimal, signed, signed_before}
use Rattle.text.specs.Places.{run, first_place, has}
use Rattle.text.specs.Number.{read_from, digits_of, unsigned_of, signed_of, fit, fit_signed}
use Rattle.text.specs.Lines.{tab, newline, ended_lines, taken_by, left}
use Rattle.time.specs.Header.{header_bytes, header_sign, sign_byte, whole_minutes}
use Rattle.time.specs.Range.{seconds_in_range, offset_in_range, time_in_range}
use Rattle.time.specs.declared.Refusal.TheVariants.{Book}
use Rattle.header.specs.Offset.{five_or_seven, field_of, last_field, fields_of, offset_of}
use Rattle.header.specs.Header.{seconds_of, header_offset, header_of_words, header_of}
use Rattle.relative.specs.Words.{words_of, spelled, count_of, singular, unit_named, unit_of}
use Rattle.relative.specs.Pairs.{pairs_from, ago_from, known}
use Rattle.relative.specs.Steps.{landing, landed, step, steps}
use Rattle.relative.specs.Relative.{max_pairs, from, named_of, by_pairs, relative_of}
use Rattle.relative.proofs.Examples.{times}
use Rattle.stamps.specs.Stamps.{printed, is_whole_minutes, stamp_of}
use Rattle.stamps.specs.Lines.{every, is_path_byte, is_path, is_hex_digit, is_key, hull_of, since_of, line_of}
use Rattle.stamps.specs.Book.{judged, lines_in, first_bad, check_of, refused_at}
use Rattle.stamps.specs.Copies.{joined}
use Rattle.stamps.specs.Listing.{listed, listing}
use Rattle.stamps.specs.declared.book.BookError.{BookError}

-- a line of `hull`, all with one key, and a line of `since`
abbrev hull : String → String → List ℕ
hull path time = bytes "hull" ++ tab ∷ bytes path ++ tab ∷ bytes "0123456789abcdef" ++ tab ∷ bytes time

abbrev since : List ℕ → String → String → List ℕ
since text seconds offset = bytes "since" ++ tab ∷ text ++ tab ∷ bytes seconds ++ tab ∷ bytes offset

-- ---- what a check returns, and what is listed
data Example : Type 0 where
  checks : List ℕ → Result (Unit {0}) BookError → Example
  lists : List (List ℕ) → List (List ℕ) → Example

abbrev AllRight : List Example → Type 0
AllRight [] = Unit {0}
AllRight (checks book r ∷ es) = (check_of max_pairs book ≡ r) × AllRight es
AllRight (lists ls kept ∷ es) = (listing max_pairs (joined ls) ≡ joined kept) × AllRight es

abbrev books : List Example
books =
    -- the empty book is good
    checks [] (Ok tt)
    -- a line is neither kind if it is empty
    ∷ checks (newline ∷ []) (refused_at Book 1)
    -- "lines end in a newline": the second line lacks its own
    ∷ checks (joined (hull "a" "5 +0130" ∷ []) ++ hull "b" "5 +0130") (refused_at Book 2)
    -- a time is what the header writer writes at an offset of whole minutes; `-0000` is offset 0 with the mark
    ∷ checks (joined (hull "a" "0 -0000" ∷ [])) (Ok tt)
    ∷ checks (joined (hull "a" "0 -000000" ∷ [])) (refused_at Book 1)
    ∷ checks (joined (hull "a" "0 -0060" ∷ [])) (refused_at Book 1)
    -- nor is an offset with seconds, a `+` in front of the seconds or a leading zero
    ∷ checks (joined (hull "a" "5 +013015" ∷ [])) (refused_at Book 1)
    ∷ checks (joined (hull "a" "+5 +0130" ∷ [])) (refused_at Book 1)
    ∷ checks (joined (hull "a" "05 +0130" ∷ [])) (refused_at Book 1)
    -- "some time": the header writer has no range but that of the offset
    ∷ checks (joined (hull "a" "9223372036854775807 +9959" ∷ [])) (Ok tt)
    -- the numbers of `since` are the two fields behind the text, not those in it
    ∷ checks (joined (since (bytes "007 days ago") "1622462400" "0" ∷ [])) (Ok tt)
    ∷ checks (joined (since (bytes "7 days ago") "01622462400" "0" ∷ [])) (refused_at Book 1)
    -- the text may hold any byte but the tab and the newline: here a carriage return and a zero
    ∷ checks (joined (since (bytes "1" ++ 13 ∷ bytes "day" ++ 0 ∷ []) "1622462400" "0" ∷ [])) (Ok tt)
    -- the text must be read at that current time: this one is out of range, even for `now`
    ∷ checks (joined (since (bytes "now") "253402207201" "0" ∷ [])) (refused_at Book 1)
    -- a hull above the `since` line is listed whatever its seconds are; below it, one at the cut-off is listed, and one before it is not.
    -- The offset of a hull does not matter
    ∷ lists (hull "a" "1 +0000" ∷ since (bytes "1 second ago") "6" "0" ∷ hull "b" "4 +0000" ∷ hull "c" "5 -0100" ∷ []) (hull "a" "1 +0000" ∷ hull "c" "5 -0100" ∷ [])
    -- the sign of offset 0 does not matter either, and comes back as it was
    ∷ lists (since (bytes "now") "5" "0" ∷ hull "a" "5 -0000" ∷ hull "b" "5 +0000" ∷ hull "c" "4 -0000" ∷ []) (hull "a" "5 -0000" ∷ hull "b" "5 +0000" ∷ [])
    -- the last `since` line above counts, not the strictest
    ∷ lists (since (bytes "now") "9" "0" ∷ since (bytes "now") "1" "0" ∷ hull "a" "5 +0000" ∷ []) (hull "a" "5 +0000" ∷ [])
    ∷ []

book_examples : AllRight books
unfolding check_of first_bad lines_in judged line_of since_of hull_of is_key is_hex_digit is_path is_path_byte every stamp_of is_whole_minutes printed joined relative_of by_pairs named_of from steps step landed landing pairs_from ago_from known unit_of unit_named singular count_of spelled words_of header_of header_of_words header_offset seconds_of offset_of fields_of last_field field_of five_or_seven time_in_range offset_in_range seconds_in_range whole_minutes sign_byte header_sign header_bytes left taken_by ended_lines fit_signed fit signed_of unsigned_of digits_of read_from has first_place run signed_before signed decimal digits_up_to full pieces words trim_start trim_end trim same_letters same ascii lower_of is_sign is_alphanumeric is_digit is_space listing listed
book_examples = (refl, (refl, (refl, (refl, (refl, (refl, (refl, (refl, (refl, (refl, (refl, (refl, (refl, (refl, (refl, (refl, (refl, tt)))))))))))))))))

-- ---- a `since` line of 33 pairs, whose cut-off is 7; by its first 32 pairs it would be 8. By a bound of 32 a book with it is refused at that
-- line, and now it is good
abbrev long : List (List ℕ)
long = hull "a" "1 +0000" ∷ since (times 33 (bytes "1 second ") []) "40" "0" ∷ hull "b" "6 +0000" ∷ hull "c" "7 +0000" ∷ []

long_since_line : (check_of 32 (joined long) ≡ refused_at Book 2) × (check_of max_pairs (joined long) ≡ Ok tt) × (listing max_pairs (joined long) ≡ joined (hull "a" "1 +0000" ∷ hull "c" "7 +0000" ∷ []))
unfolding check_of first_bad lines_in judged line_of since_of hull_of is_key is_hex_digit is_path is_path_byte every stamp_of is_whole_minutes printed joined relative_of by_pairs named_of from steps step landed landing pairs_from ago_from known unit_of unit_named singular count_of spelled words_of header_of header_of_words header_offset seconds_of offset_of fields_of last_field field_of five_or_seven time_in_range offset_in_range seconds_in_range whole_minutes sign_byte header_sign header_bytes left taken_by ended_lines fit_signed fit signed_of unsigned_of digits_of read_from has first_place run signed_before signed decimal digits_up_to full pieces words trim_start trim_end trim same_letters same ascii lower_of is_sign is_alphanumeric is_digit is_space listing listed
long_since_line = (refl, refl, refl)
