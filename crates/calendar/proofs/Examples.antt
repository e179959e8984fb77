-- What RULES 3 says of the calendar at single years, days and months, each under its words: antt computes the definitions
-- there. Days and months are counted as in Calendar. A time is its seconds from 1 January 1970, and 377,736,739,200 more.
-- Assumes nothing.
use Rattle.std.specs.Prelude.{None, Some}
use mathlib.Core.Path.{◌≡◌, refl}
use mathlib.Core.Bool.{true, false}
use Prim.Native.Nat.{◌+◌, ◌*◌}
use lib.IntN.{pos, negsuc}
use Rattle.calendar.specs.Calendar.{leap, lengths, month_length, year_length, year_start, total, first_day, span_of, year_of, month_of}
use Rattle.calendar.specs.Dates.{exists, day_number}
use Rattle.calendar.specs.Back.{months_back, back_of}
use Rattle.calendar.specs.Civil.{year_count, civil_day, civil_date}

-- "Leap years divide by 4, not by 100 unless by 400; year 0 is one"
leap_year_0 : leap (year_count (pos 0)) ≡ true
unfolding leap
leap_year_0 = refl

leap_year_minus_4 : leap (year_count (negsuc 3)) ≡ true
unfolding leap
leap_year_minus_4 = refl

leap_year_1900 : leap (year_count (pos 1900)) ≡ false
unfolding leap
leap_year_1900 = refl

leap_year_2000 : leap (year_count (pos 2000)) ≡ true
unfolding leap
leap_year_2000 = refl

leap_year_2023 : leap (year_count (pos 2023)) ≡ false
unfolding leap
leap_year_2023 = refl

-- "0, 31, 60, and last 146066"
first_days : (first_day 0 ≡ 0) × (first_day 1 ≡ 31) × (first_day 2 ≡ 60) × (first_day 4799 ≡ 146066)
unfolding first_day year_start year_length total lengths leap
first_days = (refl, refl, refl, refl)

-- "Day 0 is 1 January 1970"
epoch : first_day ((1970 + 10000) * 12) ≡ 4371953
unfolding first_day year_start year_length total lengths leap
epoch = refl

date_of_epoch : civil_date (pos 0) ≡ record { year = pos 1970; month = 1; day = 1 }
unfolding civil_date month_of year_of span_of month_length first_day year_start year_length total lengths leap
date_of_epoch = refl

-- the day before, and a leap day
date_before_epoch : civil_date (negsuc 0) ≡ record { year = pos 1969; month = 12; day = 31 }
unfolding civil_date month_of year_of span_of month_length first_day year_start year_length total lengths leap
date_before_epoch = refl

leap_day_2000 : civil_date (pos 11016) ≡ record { year = pos 2000; month = 2; day = 29 }
unfolding civil_date month_of year_of span_of month_length first_day year_start year_length total lengths leap
leap_day_2000 = refl

-- "over the years -9999 to 9999": the far ends
first_of_minus_9999 : civil_day (record { year = negsuc 9998; month = 1; day = 1 }) ≡ negsuc 4371586
unfolding civil_day first_day year_start year_length total lengths leap
first_of_minus_9999 = refl

date_of_first : civil_date (negsuc 4371586) ≡ record { year = negsuc 9998; month = 1; day = 1 }
unfolding civil_date month_of year_of span_of month_length first_day year_start year_length total lengths leap
date_of_first = refl

last_of_9999 : civil_day (record { year = pos 9999; month = 12; day = 31 }) ≡ pos 2932896
unfolding civil_day first_day year_start year_length total lengths leap
last_of_9999 = refl

date_of_last : civil_date (pos 2932896) ≡ record { year = pos 9999; month = 12; day = 31 }
unfolding civil_date month_of year_of span_of month_length first_day year_start year_length total lengths leap
date_of_last = refl

-- dates that there are, and that there are not
day_of_last : day_number 19999 12 31 ≡ Some 7304849
unfolding day_number exists month_length first_day year_start year_length total lengths leap
day_of_last = refl

no_year_10000 : day_number 20000 1 1 ≡ None
unfolding day_number exists
no_year_10000 = refl

no_leap_day_1900 : day_number 11900 2 29 ≡ None
unfolding day_number exists month_length lengths leap
no_leap_day_1900 = refl

no_month_13 : day_number 12021 13 1 ≡ None
unfolding day_number exists
no_month_13 = refl

-- "surplus days run into the next month": 31 May 2021, noon, one month earlier is 1 May, noon, and not 30 April; two months, 31
-- March
may_31_back_1 : back_of (1622462400 + 377736739200) 1 ≡ Some (1619870400 + 377736739200)
unfolding back_of months_back month_of year_of span_of month_length first_day year_start year_length total lengths leap
may_31_back_1 = refl

may_31_back_2 : back_of (1622462400 + 377736739200) 2 ≡ Some (1617192000 + 377736739200)
unfolding back_of months_back month_of year_of span_of month_length first_day year_start year_length total lengths leap
may_31_back_2 = refl

-- 29 February 2020, a year earlier: "29 February 2019" is 1 March
leap_day_back_12 : back_of (1582934400 + 377736739200) 12 ≡ Some (1551398400 + 377736739200)
unfolding back_of months_back month_of year_of span_of month_length first_day year_start year_length total lengths leap
leap_day_back_12 = refl

-- there is no month before January of year -10000
no_month_before_first : back_of 0 1 ≡ None
unfolding back_of month_of year_of span_of month_length year_start year_length lengths leap
no_month_before_first = refl
