-- Worked examples of ISO dates, computed. In order: those marked P (RULES 11.5); the others (RULES 11.6); texts that the words of the
-- rules might leave open, each below the reading that is taken (docs/DECISIONS.md); the forms that gix-date's comments name;
-- trimming, leap days and refusals.
-- Assumes nothing.
use Rattle.std.specs.Prelude.{Err, Ok, Result}
use mathlib.Core.Path.{refl}
use mathlib.Core.List.{List, [], ◌∷◌, ◌++◌}
use Prim.Native.Nat.{ℕ}
use lib.IntN.{ℤ, pos, neg_ℤ}
use Rattle.text.specs.Bytes.{is_space, is_digit, is_sign, ascii}
use Rattle.text.specs.Trim.{trim_start, trim_end, trim}
use Rattle.text.specs.Quote.{bytes}
use Rattle.text.specs.Places.{run, first_place, has, last_where, last_place}
use Rattle.text.specs.Words.{pieces}
use Rattle.text.specs.Number.{read_from, digits_of, unsigned_of, signed_of, fit, fit_signed}
use Rattle.calendar.specs.Calendar.{leap, lengths, month_length, total, year_length, year_start, first_day}
use Rattle.calendar.specs.Dates.{exists, day_number}
use Rattle.time.specs.Answers.{time_at}
use Rattle.time.specs.Rows.{Row, reads, AllRight}
use Rattle.time.specs.Range.{seconds_in_range}
use Rattle.time.specs.declared.Refusal.TheVariants.{NotAscii, Form}
use Rattle.iso.specs.Parts.{without, int32}
use Rattle.iso.specs.Cut.{ends_with_z, is_signed, is_offset, splits_at_space, sign_place, cut, time_text, offset_text}
use Rattle.iso.specs.Clock.{time_part, second_of, clock, colon_time, plain_time, iso_time}
use Rattle.iso.specs.Offset.{up_to, offset_seconds, hours_minutes, negated, iso_offset}
use Rattle.iso.specs.Forms.{all_fields, read_fields, is_separator, flexible, first_at, compact, dash_of, dashes, is_dotted, dotted, first_of, form_of}
use Rattle.iso.specs.Iso.{day_of, moment_of, zoned, iso_of}
use Rattle.iso.specs.Examples.{marked}
use Rattle.time.specs.declared.Refusal.{Refusal}
use Rattle.time.specs.declared.Time.{Time}

pub marked_examples : AllRight marked
unfolding is_space is_digit is_sign ascii trim_start trim_end trim run first_place has last_where last_place pieces read_from digits_of unsigned_of signed_of fit fit_signed leap lengths month_length total year_length year_start first_day exists day_number seconds_in_range without int32 ends_with_z is_signed is_offset splits_at_space sign_place cut time_text offset_text time_part second_of clock colon_time plain_time iso_time up_to offset_seconds hours_minutes negated iso_offset all_fields read_fields is_separator flexible first_at compact dash_of dashes is_dotted dotted first_of form_of day_of moment_of zoned iso_of
marked_examples = (refl, (refl, (refl, tt)))

abbrev row : List ℕ → Result Time Refusal → Row
row s a = reads (iso_of s) a

abbrev at : ℤ → ℤ → Result Time Refusal
at s o = Ok (time_at s o)

abbrev rows : List Row
rows =
    -- RULES 11.6
    row (bytes "2008-02-14 20:30:45:99") (at (pos 1203021045) (pos 0)) ∷
    row (bytes "2008-02-14 20:30:60") (Err Form) ∷
    row (bytes "9999-12-31 00:00:00 +02:00") (at (pos 253402207200) (pos 7200)) ∷
    row (bytes "9999-12-31 00:00:00 +01:59") (Err Form) ∷
    -- 6.2: all dots among the ten bytes are read as dashes, so `.008` is year -8
    row (bytes ".008.02.14 20:30:45") (at (neg_ℤ (pos 62415804555)) (pos 0)) ∷
    -- 6.2, 6.4: a space is byte 32, no other white space
    row (bytes "2008-02-14" ++ (9 ∷ []) ++ bytes "20:30:45") (Err Form) ∷
    row (bytes "2008.02.14" ++ (9 ∷ []) ++ bytes "20:30:45") (Err Form) ∷
    -- 6.6: beyond place 5 means 6 or more; the second of these is read by the rule for signs
    row (bytes "2008-02-14 20:30 +-5") (Err Form) ∷
    row (bytes "2008-02-14 20:30 +0500") (at (pos 1203003000) (pos 18000)) ∷
    -- 6.6: the last space is byte 32; what follows it is trimmed of any white space
    row (bytes "2008-02-14 20:30:45" ++ (9 ∷ []) ++ bytes "+-5") (Err Form) ∷
    row (bytes "2008-02-14 20:30:45 " ++ (9 ∷ []) ++ bytes "+-5") (at (pos 1203039045) (neg_ℤ (pos 18000))) ∷
    -- 6.6: the rule for signs needs a digit directly after the sign; the rule for spaces does not
    row (bytes "2008-02-14 20:30:45+:05") (Err Form) ∷
    row (bytes "2008-02-14 20:30:45 +:05") (at (pos 1203003045) (pos 18000)) ∷
    -- 6.6: the rightmost of the signs that have a digit after them, so the offset is `+05-`
    row (bytes "2008-02-14 20:30:45.1+05-") (Err Form) ∷
    -- 6.7: what is before the dot is trimmed
    row (bytes "2008-02-14 20:30:45 .5") (at (pos 1203021045) (pos 0)) ∷
    -- 6.7: only the hour is before the first dot
    row (bytes "2008-02-14 20.30.45") (at (pos 1203019200) (pos 0)) ∷
    row (bytes "2008.02.14 20.30.45") (at (pos 1203019200) (pos 0)) ∷
    -- 6.7: a fourth part is ignored, also if it is empty; a third is not
    row (bytes "2008-02-14 20:30:45:") (at (pos 1203021045) (pos 0)) ∷
    row (bytes "2008-02-14 20:30:") (Err Form) ∷
    -- 6.7: there are at most three two-byte fields
    row (bytes "2008-02-14 20304599") (Err Form) ∷
    -- 6.7: the parts of a time are not trimmed
    row (bytes "2008-02-14 20: 30") (Err Form) ∷
    -- 6.7: unsigned numbers may start with `+`; a sign at place 0 or 1, or in front of a final `Z`, opens no offset
    row (bytes "2008-02-14 +8:30") (at (pos 1202977800) (pos 0)) ∷
    row (bytes "2008-02-14 08:+5:00Z") (at (pos 1202976300) (pos 0)) ∷
    -- 6.8: colons are removed wherever they are
    row (bytes "2008-02-14 20:30:45+0:5") (at (pos 1203003045) (pos 18000)) ∷
    row (bytes "2008-02-14 20:30:45+01:") (at (pos 1203017445) (pos 3600)) ∷
    -- 6.8: the sign belongs to the whole offset
    row (bytes "2008-02-14 20:30:45 -01-5") (at (pos 1203024345) (neg_ℤ (pos 3300))) ∷
    -- 6.8: colons are removed before the bytes are counted: `530` has three
    row (bytes "2008-02-14 20:30:45+5:30") (Err Form) ∷
    -- 6.6, 6.7: the final `Z` is the offset, and what is before it ends in a part that is ignored
    row (bytes "2008-02-14 20:30:45:x +0100Z") (at (pos 1203021045) (pos 0)) ∷
    -- 4.6: `T` and `Z` are capitals
    row (bytes "2008-02-14t20:30:45") (Err Form) ∷
    row (bytes "2008-02-14T20:30:45z") (Err Form) ∷
    -- 6.5: the year is a signed field of four bytes
    row (bytes "-0010101T00") (at (neg_ℤ (pos 62198755200)) (pos 0)) ∷
    row (bytes "-001-01-01 00") (at (neg_ℤ (pos 62198755200)) (pos 0)) ∷
    -- 6.7: an empty text is no time
    row (bytes "2008-02-14") (Err Form) ∷
    row (bytes "2008-02-14T") (Err Form) ∷
    row (bytes "2008-02-14 Z") (Err Form) ∷
    -- 6.6: the rule for spaces needs only a sign; without the space `-x` belongs to the fraction, which is dropped
    row (bytes "2008-02-14 20:30:45.5 -x") (Err Form) ∷
    row (bytes "2008-02-14 20:30:45.5-x") (at (pos 1203021045) (pos 0)) ∷
    -- the forms that gix-date's comments name
    row (bytes "20080214T203045") (at (pos 1203021045) (pos 0)) ∷
    row (bytes "20080214T20:30:45") (at (pos 1203021045) (pos 0)) ∷
    row (bytes "20080214T2030") (at (pos 1203021000) (pos 0)) ∷
    row (bytes "20080214T20") (at (pos 1203019200) (pos 0)) ∷
    row (bytes "1970-01-01 00:00:00 Z") (at (pos 0) (pos 0)) ∷
    row (bytes "2008-02-14 20:30:45 -05") (at (pos 1203039045) (neg_ℤ (pos 18000))) ∷
    row (bytes "2008-02-14 20:30:45 -05:00") (at (pos 1203039045) (neg_ℤ (pos 18000))) ∷
    -- the text is trimmed; 29 February; texts that are no date at all; a byte of 128 or more is refused by 1, whatever the text
    row (bytes " " ++ (9 ∷ []) ++ bytes "2008-02-14 20:30:45" ++ (10 ∷ [])) (at (pos 1203021045) (pos 0)) ∷
    row (bytes "2008-02-29 00:00:00") (at (pos 1204243200) (pos 0)) ∷
    row (bytes "2007-02-29 00:00:00") (Err Form) ∷
    row (bytes "2008-02-30 20:30:45") (Err Form) ∷
    row (bytes "") (Err Form) ∷
    row (bytes "20080214") (Err Form) ∷
    row (bytes "2008.02.14") (Err Form) ∷
    row (bytes "2008-02-14 20:30:45" ++ (128 ∷ [])) (Err NotAscii) ∷
    row (128 ∷ []) (Err NotAscii) ∷ []

rows_right : AllRight rows
unfolding is_space is_digit is_sign ascii trim_start trim_end trim run first_place has last_where last_place pieces read_from digits_of unsigned_of signed_of fit fit_signed leap lengths month_length total year_length year_start first_day exists day_number seconds_in_range without int32 ends_with_z is_signed is_offset splits_at_space sign_place cut time_text offset_text time_part second_of clock colon_time plain_time iso_time up_to offset_seconds hours_minutes negated iso_offset all_fields read_fields is_separator flexible first_at compact dash_of dashes is_dotted dotted first_of form_of day_of moment_of zoned iso_of
rows_right =
    (refl, (refl, (refl, (refl, (refl, (refl, (refl, (refl, (refl, (refl, (refl, (refl, (refl, (refl, (refl, (refl, (refl, (refl, (refl, (refl, (refl, (refl, (refl, (refl, (refl, (refl, (refl, (refl, (refl, (refl, (refl, (refl, (refl, (refl, (refl, (refl, (refl, (refl, (refl, (refl, (refl, (refl, (refl, (refl, (refl, (refl, (refl, (refl, (refl, (refl, (refl, (refl, (refl, tt)))))))))))))))))))))))))))))))))))))))))))))))))))))
