-- RULES 14.8: the page that `monthstrip` prints for a month, as bytes. In order: a number in two columns; the row of a week; the rows; the
-- two lines above them; the page of a strip; the page of a year and a month, and what writing it answers. Weeks and days are the numbers of
-- a strip, which are all below 100; of a larger number the last two digits would be shown. Months are counted from 1.
-- Assumes nothing.
use Rattle.std.specs.Prelude.{cond, List, [], ◌∷◌, ◌++◌, ℕ, ◌-◌, ◌/◌, ◌%◌, eqb, ltb, ℤ, nat_abs, length, take, drop, get_or, replicate, Err, None, Ok, Option, Result, Some}
use Prim.Native.Char.{code}
use Rattle.text.specs.Bytes.{is_space}
use Rattle.text.specs.Decimal.{digit, signed}
use Rattle.text.specs.Lines.{newline}
use Rattle.text.specs.Quote.{bytes}
use Rattle.text.specs.Room.{fits}
use Rattle.text.specs.Words.{words}
use Rattle.time.specs.declared.Refusal.TheVariants.{Range, Room}
use Rattle.strip.specs.Strip.{month_in, strip_of}
use Rattle.strip.specs.declared.Strip.{Strip}
use Rattle.time.specs.declared.Refusal.{Refusal}

abbrev pub blank : ℕ
blank = code " "

-- a number in two columns: its last two digits, with a blank for a zero in front, so that 0 is two blanks
unfoldable pub tens : ℕ → ℕ
tens n = cond (ltb n 10) blank (digit (n / 10 % 10))

unfoldable pub ones : ℕ → ℕ
ones n = cond (eqb n 0) blank (digit (n % 10))

abbrev pub cell : ℕ → List ℕ
cell n = tens n ∷ ones n ∷ []

-- a blank and two columns for each day
unfoldable pub cells : List ℕ → List ℕ
cells [] = []
cells (d ∷ days) = blank ∷ cell d ++ cells days

-- the row of a week: its number, its days and a newline. A row with week 0 is not printed
unfoldable pub row : ℕ → List ℕ → List ℕ
row week days = cond (eqb week 0) [] (cell week ++ cells days ++ newline ∷ [])

-- the rows of the weeks, with seven days to each
unfoldable pub rows : List ℕ → List ℕ → List ℕ
rows [] days = []
rows (week ∷ weeks) days = row week (take 7 days) ++ rows weeks (drop 7 days)

-- the names of the days, Monday first
abbrev pub day_names : List ℕ
day_names = bytes "   Mo Tu We Th Fr Sa Su\n"

-- the names of the months, January first
abbrev pub month_names : List (List ℕ)
month_names = words is_space (bytes "January February March April May June July August September October November December")

unfoldable pub month_name : ℕ → List ℕ
month_name m = get_or month_names (m - 1) []

-- the name of the month, a blank and the year in plain decimal
abbrev pub heading : ℤ → ℕ → List ℕ
heading year m = month_name m ++ blank ∷ signed year

-- a text in the middle of 23 columns: blanks in front, and none behind it
abbrev pub centred : List ℕ → List ℕ
centred s = replicate ((23 - length s) / 2) blank ++ s

unfoldable pub title : ℤ → ℕ → List ℕ
title year m = centred (heading year m) ++ newline ∷ []

-- the page of a strip
unfoldable pub page_of : ℤ → ℕ → Strip → List ℕ
page_of year m s = title year m ++ day_names ++ rows s.weeks s.days

-- the page of a year and a month
unfoldable pub page_bytes : ℤ → ℤ → List ℕ
page_bytes year month = page_of year (nat_abs month) (strip_of year month).strip

-- what writing it answers: 6 if there is no such month, then 8 if the room is shorter than the page
abbrev pub if_fits : List ℕ → List ℕ → Result ℕ Refusal
if_fits page room = cond (fits page room) (Ok (length page)) (Err Room)

abbrev pub written_for : Option ℕ → List ℕ → List ℕ → Result ℕ Refusal
written_for (Some m) page room = if_fits page room
written_for None page room = Err Range

unfoldable pub page_written : ℤ → ℤ → List ℕ → Result ℕ Refusal
page_written year month room = written_for (month_in year month) (page_bytes year month) room
