-- What the definitions answer, computed. In order: the examples that RULES 11 marks P; its other examples, the sentences of RULES
-- 7, texts that could be read in two ways (docs/DECISIONS.md), and texts of many pairs; months before month 0; texts that the
-- theorems speak of.
-- Assumes nothing.
use Rattle.std.specs.Prelude.{Err, None, Ok, Option, Result, Some}
use Prim.Native.Nat.{ℕ, zero, suc, ◌+◌, ◌-◌, ◌*◌}
use Prim.Native.String.{String}
use mathlib.Core.Path.{◌≡◌, refl}
use mathlib.Core.List.{List, [], ◌∷◌, ◌++◌}
use native.Mathlib.Omega.{arith}
use lib.IntN.{ℤ, pos, negsuc}
use Rattle.text.specs.Bytes.{is_space, is_digit, is_alphanumeric, lower_of, ascii, same_letters}
use Rattle.text.specs.Trim.{trim, trim_end, trim_start}
use Rattle.text.specs.Words.{words, pieces, full}
use Rattle.text.specs.Number.{digits_of, read_from, fit}
use Rattle.text.specs.Quote.{bytes}
use Rattle.calendar.specs.Calendar.{leap, lengths, month_length, year_length, year_start, total, first_day, span_of, year_of, month_of}
use Rattle.calendar.specs.Civil.{Civil}
use Rattle.time.specs.Answers.{time_at}
use Rattle.time.specs.Rows.{Row, reads, AllRight}
use Rattle.time.specs.Range.{seconds_in_range, offset_in_range, time_in_range}
use Rattle.time.specs.declared.Refusal.TheVariants.{NotAscii, Form, Missing as NoCurrent, Current, Pairs, Range}
use Rattle.relative.specs.Words.{words_of, spelled, count_of, singular, unit_named, unit_of}
use Rattle.relative.specs.Pairs.{pairs_from, ago_from, known}
use Rattle.relative.specs.Steps.{month_start, months_earlier, landing, landed, step, steps}
use Rattle.relative.specs.Joined.{waits_from, Joinable}
use Rattle.relative.specs.Months.{month_days, earlier_date, OnePair}
use Rattle.relative.specs.declared.pair.Unit.TheVariants.{Months}
use Rattle.relative.specs.Examples.{read, at, may, marked}
use Rattle.relative.specs.Relative.{max_pairs, from, named_of, by_pairs, relative_of}
use Rattle.time.specs.declared.Refusal.{Refusal}
use Rattle.time.specs.declared.Time.{Time}

-- a text repeated n times, and an end
abbrev pub times : ℕ → List ℕ → List ℕ → List ℕ
times zero s e = e
times (suc n) s e = s ++ times n s e

abbrev many : ℕ → String → String → Option Time → Result Time Refusal
many n t e current = relative_of max_pairs (times n (bytes t) (bytes e)) current

pub marked_examples : AllRight marked
unfolding relative_of by_pairs named_of from steps step landed landing months_earlier month_start time_in_range seconds_in_range offset_in_range pairs_from ago_from known unit_of unit_named singular count_of spelled words_of is_alphanumeric ascii same_letters trim trim_end trim_start is_space lower_of words full pieces fit digits_of read_from is_digit month_of year_of span_of month_length first_day year_start year_length total lengths leap
marked_examples = (refl, (refl, (refl, (refl, (refl, (refl, (refl, (refl, tt))))))))

abbrev others : List Row
others =
    -- RULES 11, the other examples
    reads (read (negsuc 377705023200) "0 seconds") (at (negsuc 377705023200)) ∷
    reads (read (negsuc 377705023200) "1 second") (Err Range) ∷
    reads (read (pos 1698400800) "2 minutes ago") (at (pos 1698400680)) ∷
    reads (relative_of max_pairs (bytes "now") None) (Err NoCurrent) ∷
    -- RULES 7, its sentences in turn
    reads (read may " ToDay\n") (at (pos 1622462400)) ∷
    reads (read may "YESTERDAY") (at (pos 1622376000)) ∷
    reads (read may "Ten WEEKS, one hour") (at (pos 1616410800)) ∷
    reads (read may "last year") (at (pos 1590926400)) ∷
    reads (read may "zero days") (Err Form) ∷
    reads (read may "9223372036854775808 5 days") (at (pos 1622030400)) ∷
    reads (read may "9223372036854775807 weeks") (Err Range) ∷
    reads (read may "9223372036854775807 years") (Err Range) ∷
    reads (read may "1 day 2") (at (pos 1622376000)) ∷
    reads (read may "") (Err Form) ∷
    reads (relative_of max_pairs (bytes "2 fortnights") None) (Err Form) ∷
    reads (read (pos 253402207201) "now") (Err Current) ∷
    reads (relative_of max_pairs (bytes "1 day") (Some (time_at (pos 0) (pos 93600)))) (Err Current) ∷
    -- L1: digits of any length whose value fits
    reads (read may "0000000000000000000000000000005 days") (at (pos 1622030400)) ∷
    -- L2: `-` separates words
    reads (read may "-5 days") (at (pos 1622030400)) ∷
    -- L3: the mark may come first
    reads (read may "ago 5 x") (at (pos 1622462395)) ∷
    -- L4: only white space is trimmed
    reads (read may "now.") (Err Form) ∷
    reads (read may "now now") (Err Form) ∷
    -- L5: the local date: 1 March 2021, 00:30 at +01:00, goes to 1 February, 00:30 at +01:00
    reads (relative_of max_pairs (bytes "1 month") (Some (time_at (pos 1614555000) (pos 3600)))) (Ok (time_at (pos 1612135800) (pos 3600))) ∷
    -- L6: 5 February of year -9999 goes to 5 January, though that month's first day is out of range
    reads (read (negsuc 377702092799) "1 month") (at (negsuc 377704771199)) ∷
    -- L8: one `s` goes; what is left is no unit
    reads (read may "5 secondss ago") (at (pos 1622462395)) ∷
    reads (read may "5 s ago") (at (pos 1622462395)) ∷
    reads (read may "5 secondss") (Err Form) ∷
    reads (read may "5 s") (Err Form) ∷
    -- L9: `ago` is the unit of 3
    reads (read may "2 days 3 ago") (Err Form) ∷
    -- L10: a relative step
    reads (read (negsuc 377705023200) "yesterday") (Err Range) ∷
    -- L11: one word
    reads (read may "2weeks") (Err Form) ∷
    -- L12: `yesterday` has a meaning only alone
    reads (read may "yesterday 1 day") (at (pos 1622376000)) ∷
    -- L14: the first `ago` is a unit, the second the mark
    reads (read may "5 ago 3 x ago") (at (pos 1622462392)) ∷
    -- so many pairs are read, one more is 5, and that before 3
    reads (many max_pairs "1 day " "" (Some (time_at may (pos 0)))) (at (pos (1622462400 - max_pairs * 86400))) ∷
    reads (many (max_pairs + 1) "1 day " "" None) (Err Pairs) ∷
    -- 33 pairs by a bound of 32, and now: all of them count
    reads (relative_of 32 (times 33 (bytes "1 day ") []) (Some (time_at may (pos 0)))) (Err Pairs) ∷
    reads (many 33 "1 day " "" (Some (time_at may (pos 0)))) (at (pos (1622462400 - 33 * 86400))) ∷
    -- L13: the count that is dropped is no pair
    reads (many max_pairs "1 day " "7" (Some (time_at may (pos 0)))) (at (pos (1622462400 - max_pairs * 86400))) ∷
    -- L7: the whole text is read before 5 is decided, and 2 comes first
    reads (many (max_pairs + 1) "1 x " "" None) (Err Form) ∷
    reads (many (max_pairs + 1) "1 x " "ago" None) (Err Pairs) ∷
    -- 1 before 2: a byte of 128
    reads (relative_of max_pairs (128 ∷ []) None) (Err NotAscii) ∷ []

other_examples : AllRight others
unfolding relative_of by_pairs named_of from steps step landed landing months_earlier month_start time_in_range seconds_in_range offset_in_range pairs_from ago_from known unit_of unit_named singular count_of spelled words_of is_alphanumeric ascii same_letters trim trim_end trim_start is_space lower_of words full pieces fit digits_of read_from is_digit month_of year_of span_of month_length first_day year_start year_length total lengths leap
other_examples =
    (refl, (refl, (refl, (refl, (refl, (refl, (refl, (refl, (refl, (refl, (refl, (refl, (refl, (refl, (refl, (refl, (refl, (refl, (refl, (refl, (refl, (refl, (refl, (refl, (refl, (refl, (refl, (refl, (refl, (refl, (refl, (refl, (refl, (refl, (refl, (refl, (refl, (refl, (refl, (refl, (refl, tt)))))))))))))))))))))))))))))))))))))))))

-- the month before the first that is counted, December of year -10001, has 31 days; and a cycle before it
months_below_0 : (month_start (negsuc 0) ≡ negsuc 30) × (month_start (negsuc 4799) ≡ negsuc 146096)
unfolding month_start first_day year_start year_length total lengths leap
months_below_0 = (refl, refl)

-- dates some months earlier: 31 May 2021, 29 February 2020, and 31 January of year -10000, whose month before is below 0
abbrev on : ℤ → ℕ → ℕ → Civil
on y m k = record { year = y; month = m; day = k }

dates_earlier : (earlier_date (on (pos 2021) 5 31) 1 ≡ on (pos 2021) 5 1)
    × (earlier_date (on (pos 2020) 2 29) 12 ≡ on (pos 2019) 3 1)
    × (earlier_date (on (negsuc 9999) 1 31) 2 ≡ on (negsuc 10000) 12 1)
unfolding earlier_date month_days month_length lengths leap
dates_earlier = (refl, refl, refl)

-- ---- texts that the theorems speak of
three_months : OnePair (bytes "3 months ago") 3 (Months 1)
unfolding ascii words_of is_alphanumeric words full pieces pairs_from same_letters lower_of count_of spelled fit digits_of read_from is_digit unit_of unit_named singular
three_months = record { plain = refl; pair = refl }

two-years : OnePair (bytes "Two YEARS") 2 (Months 12)
unfolding ascii words_of is_alphanumeric words full pieces pairs_from same_letters lower_of count_of spelled fit digits_of read_from is_digit unit_of unit_named singular
two-years = record { plain = refl; pair = refl }

weeks-and-day : Joinable (bytes "2 weeks and 1 day")
unfolding ascii words_of is_alphanumeric words full pieces pairs_from waits_from known same_letters lower_of count_of spelled fit digits_of read_from is_digit unit_of unit_named singular
weeks-and-day = record { plain = refl; some = omega arith; units_known = refl; ended = refl }
