-- The rules for the range (RULES 2.4) and for writing (RULES 9), computed: each example is below the words that it shows.
-- Assumes nothing.
use Rattle.std.specs.Prelude.{Err, Ok}
use mathlib.Core.Path.{◌≡◌, refl}
use mathlib.Core.Bool.{true, false}
use mathlib.Core.List.{List, [], ◌∷◌}
use Prim.Native.Nat.{◌^◌, ◌-◌}
use lib.IntN.{pos, negsuc}
use lib.ListN.{replicate}
use Rattle.text.specs.Decimal.{digits_up_to, decimal, signed, signed_before}
use Rattle.text.specs.Quote.{bytes}
use Rattle.calendar.specs.Calendar.{leap, lengths, month_length, year_length, year_start, total, first_day, span_of, year_of, month_of}
use Rattle.calendar.specs.Dates.{date_of}
use Rattle.time.specs.Answers.{time_at, time_marked}
use Rattle.time.specs.Clock.{clock_of}
use Rattle.time.specs.Range.{seconds_in_range, offset_in_range}
use Rattle.time.specs.Header.{sign_byte, header_sign, whole_minutes, header_bytes, size_of, header_written, cut_to_minutes}
use Rattle.time.specs.Iso.{line_bytes, line_instant, line_written, shown, iso_bytes, iso_written}
use Rattle.time.specs.Rows.{Row, writes, AllRight}
use Rattle.time.specs.declared.Refusal.TheVariants.{Offset, Range, Room}

-- ---- the range
-- "The range of seconds is -377705023201 to 253402207200. The range of a current time's offset is -93599 to 93599."
range_ends : (seconds_in_range (negsuc 377705023200) ≡ true) × (seconds_in_range (negsuc 377705023201) ≡ false) × (seconds_in_range (pos 253402207200) ≡ true) × (seconds_in_range (pos 253402207201) ≡ false)
unfolding seconds_in_range
range_ends = (refl, refl, refl, refl)

offset_ends : (offset_in_range (negsuc 93598) ≡ true) × (offset_in_range (negsuc 93599) ≡ false) × (offset_in_range (pos 93599) ≡ true) × (offset_in_range (pos 93600) ≡ false)
unfolding offset_in_range
offset_ends = (refl, refl, refl, refl)

-- ---- the header
abbrev headers : List Row
headers =
    -- "the seconds in plain decimal, a space, `-` for a negative offset and otherwise `+`, two digits of hours and two of minutes"
    writes (header_bytes (time_at (pos 1745582210) (pos 7200))) (bytes "1745582210 +0200") ∷
    -- RULES 11.2, "359999 is written `+9959`"
    writes (header_bytes (time_at (pos 5) (pos 359999))) (bytes "5 +9959") ∷
    -- "`-` for offset 0 with the mark; beside any other offset the mark is ignored"
    writes (header_bytes (time_marked (pos 5) (pos 0) true)) (bytes "5 -0000") ∷
    writes (header_bytes (time_marked (pos 5) (pos 30) true)) (bytes "5 +0000") ∷
    writes (header_bytes (time_marked (pos 5) (pos 3600) true)) (bytes "5 +0100") ∷
    -- Git's published writer tests, t0006
    writes (header_bytes (time_at (pos 1466000000) (pos 7200))) (bytes "1466000000 +0200") ∷
    writes (header_bytes (time_at (pos 1466000000) (negsuc 7199))) (bytes "1466000000 -0200") ∷ []

headers_right : AllRight headers
unfolding header_bytes signed_before signed decimal digits_up_to header_sign sign_byte whole_minutes
headers_right = (refl, (refl, (refl, (refl, (refl, (refl, (refl, tt)))))))

-- RULES 11.2, "360000, which the header writer refuses by 7"
too_wide : header_written (time_at (pos 5) (pos 360000)) (replicate 26 0) ≡ Err Offset
unfolding header_written
too_wide = refl

-- the least offset of 32 bits is too wide; its size does not fit 32 signed bits
least_offset_too_wide : header_written (time_at (pos 5) (negsuc (2 ^ 31 - 1))) [] ≡ Err Offset
unfolding header_written
least_offset_too_wide = refl

-- "the buffer is shorter than the bytes to be written": six bytes for `5 +0000`, which takes seven
short_by_one : header_written (time_at (pos 5) (pos 0)) (replicate 6 0) ≡ Err Room
unfolding header_written size_of signed decimal digits_up_to
short_by_one = refl

-- "the length of the seconds in plain decimal plus 6"; zero has one digit
sizes : (size_of (pos 0) ≡ 7) × (size_of (negsuc 0) ≡ 8) × (size_of (pos 1745582210) ≡ 16)
unfolding size_of signed decimal digits_up_to
sizes = (refl, refl, refl)

-- ---- the ISO line
abbrev lines : List Row
lines =
    -- "`YYYY-MM-DDTHH:MM:SS+HH:MM`"
    writes (iso_bytes (time_at (pos 1203039045) (negsuc 17999))) (bytes "2008-02-14T20:30:45-05:00") ∷
    -- "The offset is first cut toward zero to whole minutes. Fields and year are taken from the cut offset"
    writes (iso_bytes (time_at (pos 0) (negsuc 89))) (bytes "1969-12-31T23:59:00-00:01") ∷
    writes (iso_bytes (time_at (pos 0) (pos 90))) (bytes "1970-01-01T00:01:00+00:01") ∷
    -- "with `+` where it is zero"
    writes (iso_bytes (time_at (pos 0) (negsuc 29))) (bytes "1970-01-01T00:00:00+00:00") ∷
    -- "the ISO writer ignores the mark"
    writes (iso_bytes (time_marked (pos 0) (pos 0) true)) (bytes "1970-01-01T00:00:00+00:00") ∷
    -- Git's published writer tests, t0006, but for offset 0, where Git prints `Z`
    writes (iso_bytes (time_at (pos 1466000000) (pos 7200))) (bytes "2016-06-15T16:13:20+02:00") ∷
    writes (iso_bytes (time_at (pos 1466000000) (negsuc 7199))) (bytes "2016-06-15T12:13:20-02:00") ∷ []

lines_right : AllRight lines
unfolding iso_bytes shown cut_to_minutes line_bytes clock_of sign_byte whole_minutes date_of month_of year_of span_of month_length year_length first_day year_start total lengths leap
lines_right = (refl, (refl, (refl, (refl, (refl, (refl, (refl, tt)))))))

-- "Writers test in the order 7, 6, 8": the largest seconds at an offset of a day, with no room
seven_first : iso_written (time_at (pos (2 ^ 63 - 1)) (pos 86400)) [] ≡ Err Offset
unfolding iso_written shown cut_to_minutes line_written line_instant
seven_first = refl

six_next : iso_written (time_at (pos 253402207201) (pos 0)) [] ≡ Err Range
unfolding iso_written shown cut_to_minutes line_written line_instant seconds_in_range
six_next = refl

-- "a local year, at the cut offset, outside 0 to 9999": the second before 1 January 0000, and that midnight
year_before_0 : iso_written (time_at (negsuc 62167219200) (pos 0)) (replicate 25 0) ≡ Err Range
unfolding iso_written shown cut_to_minutes line_written line_instant seconds_in_range clock_of date_of month_of year_of span_of month_length year_length first_day year_start total lengths leap
year_before_0 = refl

year_0 : iso_written (time_at (negsuc 62167219199) (pos 0)) (replicate 25 0) ≡ Ok 25
unfolding iso_written shown cut_to_minutes line_written line_instant seconds_in_range clock_of date_of month_of year_of span_of month_length year_length first_day year_start total lengths leap
year_0 = refl

-- RULES 11.14: the offset is cut to 0 first, so half a minute does not leave year 0, nor reach it
year_0_at_minus_30 : iso_written (time_at (negsuc 62167219199) (negsuc 29)) (replicate 25 0) ≡ Ok 25
unfolding iso_written shown cut_to_minutes line_written line_instant seconds_in_range clock_of date_of month_of year_of span_of month_length year_length first_day year_start total lengths leap
year_0_at_minus_30 = refl

year_before_0_at_30 : iso_written (time_at (negsuc 62167219229) (pos 30)) (replicate 25 0) ≡ Err Range
unfolding iso_written shown cut_to_minutes line_written line_instant seconds_in_range clock_of date_of month_of year_of span_of month_length year_length first_day year_start total lengths leap
year_before_0_at_30 = refl
