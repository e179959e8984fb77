-- The worked examples of headers and raw dates (RULES 11.1 to 11.4 and 11.12), proved of the definitions. In order: those marked
-- P, one table and one statement; the others, and texts that could be read in two ways, each under the words that decide; raw
-- dates by rule 2.
-- Assumes nothing.
use Rattle.std.specs.Prelude.{Err, Ok}
use mathlib.Core.Path.{refl}
use mathlib.Core.Bool.{true}
use mathlib.Core.List.{List, [], ◌∷◌, ◌++◌}
use Prim.Native.Char.{code}
use lib.IntN.{pos, negsuc}
use Rattle.text.specs.Bytes.{is_space, is_digit, is_sign, ascii}
use Rattle.text.specs.Places.{run, first_place, has}
use Rattle.text.specs.Words.{words, pieces, full}
use Rattle.text.specs.Number.{read_from, digits_of, unsigned_of, signed_of, fit}
use Rattle.text.specs.Quote.{bytes}
use Rattle.text.specs.Decimal.{digits_up_to, decimal, signed, signed_before}
use Rattle.time.specs.Answers.{time_at, time_marked}
use Rattle.time.specs.Header.{header_bytes, header_sign, sign_byte, whole_minutes}
use Rattle.time.specs.Rows.{Row, reads, AllRight}
use Rattle.time.specs.declared.Refusal.TheVariants.{NotAscii, Form, TooLarge}
use Rattle.header.specs.Offset.{five_or_seven, field_of, last_field, fields_of, offset_of}
use Rattle.header.specs.Header.{seconds_of, header_offset, header_of_words, header_of}
use Rattle.header.specs.Raw.{rule1, rule2, allows, raw_of_words, raw_of}
use Rattle.header.specs.Examples.{five, five_marked, marked}

-- ---- the examples marked P
pub marked_examples : AllRight marked
unfolding is_space is_digit is_sign ascii run first_place has words pieces full read_from digits_of unsigned_of signed_of fit digits_up_to decimal signed signed_before header_bytes header_sign sign_byte whole_minutes five_or_seven field_of last_field fields_of offset_of seconds_of header_offset header_of_words header_of allows raw_of_words raw_of
marked_examples = (refl, (refl, (refl, (refl, (refl, (refl, (refl, (refl, (refl, tt)))))))))

-- ---- the other examples
abbrev others : List Row
others =
    reads (header_of (bytes "1745582210 +0200")) (Ok (time_at (pos 1745582210) (pos 7200)))
    ∷ reads (header_of (bytes "5 +9960")) (five (pos 360000))
    ∷ reads (raw_of rule1 (bytes "5 +1500")) (Err Form)
    ∷ reads (raw_of rule1 (bytes "5 +0010")) (Err Form)
    ∷ reads (raw_of rule1 (bytes "5")) (Err Form)
    -- ---- texts that could be read in two ways
    -- RULES 5.4 does not depend on how the first word was read
    ∷ reads (header_of (bytes "12abc +0100")) (Ok (time_at (pos 12) (pos 3600)))
    -- only white space separates words
    ∷ reads (header_of (bytes "12+0100")) (Ok (time_at (pos 12) (pos 0)))
    -- RULES 5.5: "The sign in front belongs to the whole offset"
    ∷ reads (header_of (bytes "5 -01-5")) (five (negsuc 3299))
    -- RULES 5.2: "its leading digits are one", and not the longest prefix that fits
    ∷ reads (header_of (bytes "99999999999999999999")) (Err TooLarge)
    -- RULES 4.1: white space is the bytes 9 to 13 and 32, so byte 31 is not
    ∷ reads (header_of (code "5" ∷ 31 ∷ bytes "+0100")) (five (pos 0))
    -- RULES 5.4: "hours, minutes, and with 7 bytes seconds"
    ∷ reads (header_of (bytes "5 +010203")) (five (pos 3723))
    -- RULES 5.1: "a `:` anywhere", in a third word too
    ∷ reads (header_of (bytes "5 x y:z")) (Err Form)
    -- RULES 4.4: the value decides whether a number fits, not the count of its digits
    ∷ reads (header_of (bytes "00000000000000000000000000000000000000005")) (five (pos 0))
    -- RULES 5.7: fields "may open with `+`", the seconds too
    ∷ reads (raw_of rule1 (bytes "5 +0100+0")) (five (pos 3600))
    -- RULES 5.7: the limits are those of the fields, whatever the sign in front
    ∷ reads (raw_of rule1 (bytes "5 -1445")) (five (negsuc 53099))
    -- RULES 4.3 and 5.7: `-0` is no unsigned number; RULES 5.4: it is a signed one
    ∷ reads (raw_of rule1 (bytes "5 +01-0")) (Err Form)
    ∷ reads (header_of (bytes "5 +01-0")) (five (pos 3600))
    -- RULES 5.6: "exactly two words", whatever white space is around them
    ∷ reads (raw_of rule1 (code " " ∷ bytes "5 +0100" ++ 10 ∷ [])) (five (pos 3600))
    -- RULES 5.4: only in a header the byte after the sign has to be a digit
    ∷ reads (header_of (bytes "5 ++5+0")) (five (pos 0))
    -- RULES 2.2: 1 is tested before 2
    ∷ reads (header_of (code ":" ∷ 128 ∷ [])) (Err NotAscii)
    ∷ reads (raw_of rule1 (128 ∷ [])) (Err NotAscii)
    -- the least and the largest offset
    ∷ reads (header_of (bytes "5 -999999")) (five (negsuc 362438))
    ∷ reads (header_of (bytes "5 +999999")) (five (pos 362439))
    -- raw has no rule for a `:`, but no number and no offset holds one
    ∷ reads (raw_of rule1 (bytes "5: +0100")) (Err Form)
    ∷ reads (raw_of rule1 (bytes "5 +01:0")) (Err Form)
    -- no word at all
    ∷ reads (header_of []) (Err Form)
    ∷ reads (raw_of rule1 []) (Err Form)
    ∷ []

other_examples : AllRight others
unfolding is_space is_digit is_sign ascii run first_place has words pieces full read_from digits_of unsigned_of signed_of fit five_or_seven field_of last_field fields_of offset_of seconds_of header_offset header_of_words header_of allows raw_of_words raw_of
other_examples =
    (refl, (refl, (refl, (refl, (refl, (refl, (refl, (refl, (refl, (refl, (refl, (refl, (refl, (refl, (refl, (refl, (refl, (refl, (refl, (refl, (refl, (refl, (refl, (refl, (refl, (refl, (refl, tt)))))))))))))))))))))))))))

-- ---- the mark (RULES 5.10 and 11.18)
abbrev minus-zero : List Row
minus-zero =
    reads (header_of (bytes "5 +0000")) (five (pos 0))
    -- with a third word the second is not read as an offset
    ∷ reads (header_of (bytes "5 -0000 x")) (five (pos 0))
    ∷ reads (header_of (bytes "12abc -0000")) (Ok (time_marked (pos 12) (pos 0) true))
    -- the sum decides, not the digits: 0 hours, -1 minute, 60 seconds
    ∷ reads (header_of (bytes "5 -00-160")) five_marked
    ∷ reads (header_of (bytes "5 -000000")) five_marked
    ∷ reads (header_of (bytes "5 -0001")) (five (negsuc 59))
    -- no offset: the second byte is no digit, or there are 4 bytes
    ∷ reads (header_of (bytes "5 -+0+0")) (five (pos 0))
    ∷ reads (header_of (bytes "5 -000")) (five (pos 0))
    -- by either rule of raw dates
    ∷ reads (raw_of rule1 (bytes "5 -0000")) five_marked
    ∷ reads (raw_of rule2 (bytes "5 -0000")) five_marked
    ∷ reads (raw_of rule1 (bytes "5 -+0+0")) five_marked
    ∷ reads (raw_of rule1 (bytes "5 +0000")) (five (pos 0))
    ∷ reads (raw_of rule1 (bytes "5 -0000 x")) (Err Form)
    ∷ []

minus-zero-examples : AllRight minus-zero
unfolding is_space is_digit is_sign ascii run first_place has words pieces full read_from digits_of unsigned_of signed_of fit five_or_seven field_of last_field fields_of offset_of seconds_of header_offset header_of_words header_of allows raw_of_words raw_of
minus-zero-examples = (refl, (refl, (refl, (refl, (refl, (refl, (refl, (refl, (refl, (refl, (refl, (refl, (refl, tt)))))))))))))

-- ---- raw dates by rule 2
abbrev by_rule_2 : List Row
by_rule_2 =
    reads (raw_of rule2 (bytes "5 +0520")) (five (pos 19200))
    ∷ reads (raw_of rule1 (bytes "5 +0520")) (Err Form)
    ∷ reads (raw_of rule2 (bytes "5 +2000")) (five (pos 72000))
    ∷ reads (raw_of rule1 (bytes "5 +2000")) (Err Form)
    ∷ reads (raw_of rule2 (bytes "5 -2359")) (five (negsuc 86339))
    ∷ reads (raw_of rule1 (bytes "5 -2359")) (Err Form)
    ∷ reads (raw_of rule2 (bytes "5 +2400")) (Err Form)
    ∷ reads (raw_of rule1 (bytes "5 +2400")) (Err Form)
    ∷ reads (raw_of rule2 (bytes "5 +0060")) (Err Form)
    ∷ reads (raw_of rule1 (bytes "5 +0060")) (Err Form)
    -- RULES 5.7: by both rules "seconds are 0"
    ∷ reads (raw_of rule2 (bytes "5 +010000")) (five (pos 3600))
    ∷ reads (raw_of rule2 (bytes "5 +010001")) (Err Form)
    ∷ reads (raw_of rule1 (bytes "5 +010001")) (Err Form)
    -- RULES 5.7: by both rules fields "may open with `+`"
    ∷ reads (raw_of rule2 (bytes "5 ++5+7")) (five (pos 18420))
    ∷ reads (raw_of rule1 (bytes "5 ++5+7")) (Err Form)
    ∷ []

rule_2_examples : AllRight by_rule_2
unfolding is_space is_digit is_sign ascii run words pieces full read_from digits_of unsigned_of signed_of fit five_or_seven field_of last_field fields_of offset_of allows raw_of_words raw_of
rule_2_examples = (refl, (refl, (refl, (refl, (refl, (refl, (refl, (refl, (refl, (refl, (refl, (refl, (refl, (refl, (refl, tt)))))))))))))))

-- ---- numbers that are too large (RULES 11.15 and 11.16)
abbrev too_large : List Row
too_large =
    reads (header_of (bytes "-99999999999999999999")) (Err TooLarge)
    ∷ reads (header_of (bytes "99999999999999999999x")) (Err TooLarge)
    ∷ reads (header_of (bytes "99999999999999999999 +0100 x")) (Err TooLarge)
    -- no number, and no leading digits
    ∷ reads (header_of (bytes "-99999999999999999999x")) (Err Form)
    -- RULES 2.2: a header's `:` is tested before 11
    ∷ reads (header_of (bytes "99999999999999999999 +01:00")) (Err Form)
    -- RULES 5.9: "Later words are not looked at, nor whether there are any"
    ∷ reads (raw_of rule1 (bytes "99999999999999999999")) (Err TooLarge)
    ∷ reads (raw_of rule1 (bytes "99999999999999999999 +0100")) (Err TooLarge)
    ∷ reads (raw_of rule1 (bytes "99999999999999999999 +0100 x")) (Err TooLarge)
    ∷ reads (raw_of rule1 (bytes "99999999999999999999 +01:00")) (Err TooLarge)
    -- RULES 5.6: raw does not fall back on leading digits
    ∷ reads (raw_of rule1 (bytes "99999999999999999999x")) (Err Form)
    ∷ reads (raw_of rule1 (bytes "99999999999999999999:5")) (Err Form)
    -- the ends of 64 bits
    ∷ reads (header_of (bytes "9223372036854775807")) (Ok (time_at (pos 9223372036854775807) (pos 0)))
    ∷ reads (header_of (bytes "9223372036854775808")) (Err TooLarge)
    ∷ reads (header_of (bytes "-9223372036854775808")) (Ok (time_at (negsuc 9223372036854775807) (pos 0)))
    ∷ reads (header_of (bytes "-9223372036854775809")) (Err TooLarge)
    ∷ []

too_large_examples : AllRight too_large
unfolding is_space is_digit is_sign ascii run first_place has words pieces full read_from digits_of unsigned_of signed_of fit five_or_seven field_of last_field fields_of offset_of seconds_of header_offset header_of_words header_of allows raw_of_words raw_of
too_large_examples = (refl, (refl, (refl, (refl, (refl, (refl, (refl, (refl, (refl, (refl, (refl, (refl, (refl, (refl, (refl, tt)))))))))))))))
