-- Months whose strips are known, each under its words: antt computes the definitions there.
-- Assumes nothing.
use mathlib.Core.Path.{◌≡◌, refl}
use mathlib.Core.List.{[], ◌∷◌}
use lib.IntN.{pos, negsuc}
use Rattle.calendar.specs.Calendar.{leap, lengths, month_length, year_length, year_start, total, first_day, span_of, year_of, month_of}
use Rattle.strip.specs.Weeks.{weekday, monday, thursday, thursday_from, first_thursday, week_year, week}
use Rattle.strip.specs.Strip.{along, place_day, shown_at, week_at, month_in, month_strip, no_strip, strip_of}

-- "1 January 1970 is a Thursday"
january_1970 : (strip_of (pos 1970) (pos 1)).strip.weekday ≡ 4
unfolding strip_of month_in month_strip weekday month_length first_day year_start year_length total lengths leap
january_1970 = refl

-- January 2021 begins on a Friday, and its first row is week 53 of 2020
january_2021 : strip_of (pos 2021) (pos 1) ≡ record {
  number = 0;
  strip = record {
    length = 31;
    weekday = 5;
    weeks = 53 ∷ 1 ∷ 2 ∷ 3 ∷ 4 ∷ 0 ∷ [];
    days = 0 ∷ 0 ∷ 0 ∷ 0 ∷ 1 ∷ 2 ∷ 3 ∷ 4 ∷ 5 ∷ 6 ∷ 7 ∷ 8 ∷ 9 ∷ 10 ∷ 11 ∷ 12 ∷ 13 ∷ 14 ∷ 15 ∷ 16 ∷ 17 ∷ 18 ∷ 19 ∷ 20 ∷ 21 ∷ 22 ∷ 23 ∷ 24 ∷ 25 ∷ 26 ∷ 27 ∷ 28 ∷ 29 ∷ 30 ∷ 31 ∷ 0 ∷ 0 ∷ 0 ∷ 0 ∷ 0 ∷ 0 ∷ 0 ∷ [];
  };
}
unfolding strip_of month_in month_strip along place_day shown_at week_at weekday monday thursday thursday_from first_thursday week_year week month_of year_of span_of month_length first_day year_start year_length total lengths leap
january_2021 = refl

-- four rows: February 2021 begins on a Monday. Six: August 2021 begins on a Sunday
february_2021 : ((strip_of (pos 2021) (pos 2)).strip.weekday ≡ 1) × ((strip_of (pos 2021) (pos 2)).strip.weeks ≡ 5 ∷ 6 ∷ 7 ∷ 8 ∷ 0 ∷ 0 ∷ [])
unfolding strip_of month_in month_strip along place_day week_at weekday monday thursday thursday_from first_thursday week_year week month_of year_of span_of month_length first_day year_start year_length total lengths leap
february_2021 = (refl, refl)

august_2021 : ((strip_of (pos 2021) (pos 8)).strip.weekday ≡ 7) × ((strip_of (pos 2021) (pos 8)).strip.weeks ≡ 30 ∷ 31 ∷ 32 ∷ 33 ∷ 34 ∷ 35 ∷ [])
unfolding strip_of month_in month_strip along place_day week_at weekday monday thursday thursday_from first_thursday week_year week month_of year_of span_of month_length first_day year_start year_length total lengths leap
august_2021 = (refl, refl)

-- the last row of December 2024 is week 1 of 2025
december_2024 : (strip_of (pos 2024) (pos 12)).strip.weeks ≡ 48 ∷ 49 ∷ 50 ∷ 51 ∷ 52 ∷ 1 ∷ []
unfolding strip_of month_in month_strip along place_day week_at weekday monday thursday thursday_from first_thursday week_year week month_of year_of span_of month_length first_day year_start year_length total lengths leap
december_2024 = refl

-- the far ends: 1 January -9999 is a Monday, 31 December 9999 a Friday
january_minus_9999 : ((strip_of (negsuc 9998) (pos 1)).strip.weekday ≡ 1) × ((strip_of (negsuc 9998) (pos 1)).strip.weeks ≡ 1 ∷ 2 ∷ 3 ∷ 4 ∷ 5 ∷ 0 ∷ [])
unfolding strip_of month_in month_strip along place_day week_at weekday monday thursday thursday_from first_thursday week_year week month_of year_of span_of month_length first_day year_start year_length total lengths leap
january_minus_9999 = (refl, refl)

december_9999 : (strip_of (pos 9999) (pos 12)).strip.weeks ≡ 48 ∷ 49 ∷ 50 ∷ 51 ∷ 52 ∷ 0 ∷ []
unfolding strip_of month_in month_strip along place_day week_at weekday monday thursday thursday_from first_thursday week_year week month_of year_of span_of month_length first_day year_start year_length total lengths leap
december_9999 = refl

-- "a year or month outside is 6, all 0 in the strip"
no_year_10000 : strip_of (pos 10000) (pos 1) ≡ record { number = 6; strip = no_strip }
unfolding strip_of month_in
no_year_10000 = refl

no_month_13 : strip_of (pos 2021) (pos 13) ≡ record { number = 6; strip = no_strip }
unfolding strip_of month_in
no_month_13 = refl
