-- RULES 7.8 to 7.10: pairs apply in order, each from the date where the one before landed. A landing is a whole number of seconds
-- since 1970, of any size and sign, and is tested for range as such: nothing here wraps, and nothing stops at 0. Days and months
-- are counted as in the calendar: day 0 is 1 January of year -10000, in month 0; 1 January 1970 is day 4,371,953 and begins at
-- second 377,736,739,200.
-- Assumes nothing.
use Rattle.std.specs.Prelude.{ℕ, ◌+◌, ◌-◌, ◌*◌, ◌/◌, ◌%◌, cond, List, [], ◌∷◌, ℤ, pos, negsuc, nat_abs, ◌+ℤ◌, ◌-ℤ◌, ◌*ℤ◌, Err, Ok, Result}
use Rattle.calendar.specs.Calendar.{first_day, month_of}
use Rattle.time.specs.Answers.{time_at}
use Rattle.time.specs.Range.{seconds_in_range}
use Rattle.time.specs.declared.Time.{Time}
use Rattle.time.specs.declared.Refusal.TheVariants.{Range}
use Rattle.relative.specs.declared.pair.Unit.{Unit}
use Rattle.relative.specs.declared.pair.Unit.TheVariants.{Seconds, Months, Unknown}
use Rattle.relative.specs.declared.pair.Pair.{Pair}
use Rattle.time.specs.declared.Refusal.{Refusal}

-- the local time of a time in range, in seconds from day 0
abbrev pub local_seconds : Time → ℕ
local_seconds x = nat_abs (x.seconds +ℤ x.offset +ℤ pos 377736739200)

-- the first day of a month, also before month 0: the calendar repeats every 4,800 months, which have 146,097 days
-- (`month_start-add-one`: every month begins where the one before it ends)
unfoldable pub month_start : ℤ → ℤ
month_start (pos m) = pos (first_day m)
month_start (negsuc m) = pos (first_day (4799 - m % 4800)) -ℤ pos ((m / 4800 + 1) * 146097)

-- the instant n months earlier on the local clock: the month count is lowered by n, and the day is as many days after the first
-- of that month as it was after the first of its own, so that surplus days run on into the next month. The clock stays
unfoldable pub months_earlier : Time → ℕ → ℤ
months_earlier x n =
    let t : ℕ = local_seconds x in
    let d : ℕ = t / 86400 in
    let m : ℕ = month_of d in
    (month_start (pos m -ℤ pos n) +ℤ pos (d - first_day m)) *ℤ pos 86400 +ℤ pos (t % 86400) -ℤ pos 377736739200 -ℤ x.offset

-- where n of a unit lands: units of seconds subtract exactly; months lower the month count by n, years by twelve times n; an
-- unknown unit counts as seconds
unfoldable pub landing : Time → ℕ → Unit → ℤ
landing x n (Seconds k) = x.seconds -ℤ pos (n * k)
landing x n (Months k) = months_earlier x (n * k)
landing x n Unknown = x.seconds -ℤ pos n

-- a landing at an offset, or refusal 6 exactly when it is out of range
unfoldable pub landed : ℤ → ℤ → Result Time Refusal
landed z o = cond (seconds_in_range z) (Ok (time_at z o)) (Err Range)

-- one pair; the offset stays, and so does a refusal
unfoldable pub step : Pair → Result Time Refusal → Result Time Refusal
step p (Ok x) = landed (landing x p.count p.unit) x.offset
step p (Err r) = Err r

-- all pairs in order, each from where the one before landed
unfoldable pub steps : List Pair → Result Time Refusal → Result Time Refusal
steps [] a = a
steps (p ∷ ps) a = steps ps (step p a)
