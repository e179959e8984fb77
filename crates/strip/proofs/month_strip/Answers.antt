-- `strip::month_strip` meets its contract: two first days that follow one another give the month's length, the weekday of its first day, and the
-- Monday of the first row.
use mathlib.Core.Path.{◌≡◌, sym, ap, ◌∙◌}
use Prim.Native.Nat.{◌+◌, ◌-◌, ◌≤◌}
use native.Mathlib.Omega.{arith}
use Rattle.calendar.specs.Calendar.{first_day, month_length}
use Rattle.calendar.proofs.Lengths.{first_day-add-one, month_length-le}
use Rattle.strip.specs.Weeks.{weekday}
use Rattle.strip.specs.Strip.{month_strip}
use Rattle.strip.proofs.Weeks.{weekday_is}
use Rattle.strip.proofs.Places.{first_day-ge, weeks_of_is, days_of_is}
use Rattle.strip.proofs.month_strip.Goals as goal
use Rattle.strip.proofs.month_strip.Goals.{After-first_day-end}

-- the first days of the month and of the next
first_is : (c : After-first_day-end) → c.first_day-first.result ≡ first_day c.args.m
first_is c = c.first_day-first.ensures.is

end_is : (c : After-first_day-end) → let m = c.args.m in c.first_day-end.result ≡ first_day m + month_length m
end_is c = c.first_day-end.ensures.is ∙ first_day-add-one _

early : (c : After-first_day-end) → 362 ≤ c.first_day-first.result
early c = rw (first_is c) (first_day-ge _ c.requires.month.0)

pub overflow_sub-length : goal.overflow_sub-length
overflow_sub-length c = omega (arith, first_is c, end_is c)

pub overflow_cast-result : goal.overflow_cast-result
overflow_cast-result c = record { fits = omega (arith, first_is c, end_is c, month_length-le c.args.m) }

pub overflow_sub-first : goal.overflow_sub-first
overflow_sub-first c = omega (arith, early c)

pub weeks_of-requires : goal.weeks_of-requires
unfolding weekday
weeks_of-requires c =
    let m = c.args.m in record {
      monday = omega (arith, early c);
      start = omega (arith, first_is c, end_is c);
      end = (omega (arith, early c, first_is c, end_is c, month_length-le m), c.first_day-end.ensures.range);
    }

pub days_of-requires : goal.days_of-requires
days_of-requires c =
    let m = c.args.m in
    let p = (goal.at.days_of-requires c).After-first_day-end in
    omega (arith, first_is p, end_is p, month_length-le m)

pub returns : goal.returns
unfolding month_strip
returns c =
    let m = c.args.m in
    let h = c.requires.month.0 in
    let p = (goal.at.returns c).After-first_day-end in
    let first = first_is p in
    let end = end_is p in
    let length_is : c.first_day-end.result - c.first_day-first.result ≡ month_length m = omega arith in
    let weekday-eq = sym (weekday_is c.first_day-first.result) ∙ ap weekday first in
    let weeks-eq = c.weeks_of.ensures ∙ weeks_of_is m _ _ h first end in
    let days-eq = c.days_of.ensures ∙ days_of_is m _ _ h first end in
    λ i. record { length = length_is i; weekday = weekday-eq i; weeks = weeks-eq i; days = days-eq i }
