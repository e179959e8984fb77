-- RULES 14.8, computed: each example is below the words that it shows. The weeks and days of January 2021 are those that `ncal -b -M -w`
-- prints.
-- Assumes nothing.
use mathlib.Core.Path.{◌≡◌, refl}
use mathlib.Core.List.{[], ◌∷◌}
use lib.IntN.{pos, negsuc}
use Rattle.text.specs.Bytes.{is_space}
use Rattle.text.specs.Decimal.{signed, decimal, digits_up_to}
use Rattle.text.specs.Quote.{bytes}
use Rattle.text.specs.Words.{words, pieces, full}
use Rattle.calendar.specs.Calendar.{leap, lengths, month_length, year_length, year_start, total, first_day, span_of, year_of, month_of}
use Rattle.strip.specs.Weeks.{weekday, monday, thursday, thursday_from, first_thursday, week_year, week}
use Rattle.strip.specs.Strip.{along, place_day, shown_at, week_at, month_strip, month_in, strip_of}
use Rattle.monthstrip.specs.Page.{tens, ones, cells, row, rows, month_name, title, page_of, page_bytes}

-- a row: the week in front, and a blank where the day is one of another month
a_row : row 53 (0 ∷ 0 ∷ 0 ∷ 0 ∷ 1 ∷ 2 ∷ 3 ∷ []) ≡ bytes "53              1  2  3\n"
unfolding row cells tens ones
a_row = refl

-- the title is in the middle of 23 columns; a negative year has `-` in front
march_minus_5 : title (negsuc 4) 3 ≡ bytes "       March -5\n"
unfolding title month_name words pieces full is_space signed decimal digits_up_to
march_minus_5 = refl

-- 1 January 2021 is a Friday, in week 53 of 2020
january_2021 : page_bytes (pos 2021) (pos 1) ≡ bytes "     January 2021\n   Mo Tu We Th Fr Sa Su\n53              1  2  3\n 1  4  5  6  7  8  9 10\n 2 11 12 13 14 15 16 17\n 3 18 19 20 21 22 23 24\n 4 25 26 27 28 29 30 31\n"
unfolding page_bytes page_of title month_name words pieces full is_space signed decimal digits_up_to rows row cells tens ones strip_of month_in month_strip place_day shown_at week_at week week_year thursday monday weekday first_thursday thursday_from leap lengths month_length year_length year_start total first_day span_of year_of month_of along
january_2021 = refl
