-- `strip::week_of` meets its contract: the month of a day is of the day's year, so the January found is that year's, and its first day decides
-- the week of a Thursday.
use mathlib.Core.Path.{◌≡◌, sym, ap, ◌∙◌}
use Prim.Native.Nat.{◌*◌, ◌/◌}
use native.Mathlib.Omega.{arith}
use Rattle.calendar.specs.Calendar.{first_day, year_start, year_of, month_of}
use Rattle.calendar.specs.Dates.{date_of}
use Rattle.calendar.specs.declared.Date.{Date}
use Rattle.calendar.proofs.Lengths.{first_day-year}
use Rattle.calendar.proofs.Dates.{year_of-month_of, year_of-between}
use Rattle.strip.proofs.Weeks.{week_of_thursday, days_into_year}
use Rattle.strip.proofs.week_of.Goals as goal

-- the first day of the Thursday's year
new-year : (c : goal.After-first_day-new_year) → c.first_day-new_year.result ≡ year_start (year_of c.args.thursday)
unfolding date_of
new-year c =
    let d = c.args.thursday in
    c.first_day-new_year.ensures.is
    ∙ ap (λ (x : Date). first_day (x.month / 12 * 12)) c.date_of-date.ensures.is
    ∙ first_day-year (month_of d / 12)
    ∙ ap year_start (sym (year_of-month_of d))

pub overflow_sub-result : goal.overflow_sub-result
overflow_sub-result c = rw (new-year c) (year_of-between _).0

pub overflow_cast-result : goal.overflow_cast-result
overflow_cast-result c = record { fits = omega (arith, new-year c, days_into_year c.args.thursday) }

pub returns : goal.returns
returns c = rw (new-year c) (sym (week_of_thursday _ c.requires.thursday))
