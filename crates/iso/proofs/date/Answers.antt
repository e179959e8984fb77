-- `iso::date` meets its contract: no number below 0 is a month or a day, and past the tests of the year no cast loses anything.
use mathlib.Core.Path.{◌≡◌, sym, ◌∙◌}
use lib.IntN.{pos, negsuc, nat_abs}
use mir.Syntax.{w64}
use Rattle.ints.specs.Range.{In}
use Rattle.ints.proofs.Machine.{param, lit, known, add, fits, read, unsign, lt_yes, lt_no, inside, is_in_of_lt, is_in_of_gt}
use Rattle.calendar.specs.Dates.{day_number}
use Rattle.iso.specs.Iso.{day_of}
use Rattle.iso.proofs.Instants.{tried_value, tried_none, day_of-month, day_of-day, day_of-year, day_of-value}
use Rattle.iso.proofs.date.Goals as goal
use Rattle.iso.proofs.date.Goals.{Else-y-gt-MOST_YEAR, then-y-lt-LEAST_YEAR-via-then-y-lt-LEAST_YEAR, then-y-lt-LEAST_YEAR-via-else-y-lt-LEAST_YEAR+then-y-gt-MOST_YEAR}

-- past the tests of the year
y-in : (c : Else-y-gt-MOST_YEAR) → In (negsuc 9998) (pos 9999) c.args.y
y-in c =
    inside w64 (negsuc 9998) (pos 9999) c.ranges.y c.if-y-lt-LEAST_YEAR.false c.if-y-gt-MOST_YEAR.false

-- a month below 0
pub returns-in_err-month-clause-is : goal.returns-in_err-month-clause-is
returns-in_err-month-clause-is c =
    c.from_residual.ensures ∙ day_of-month _ _ _ (tried_none c.try_from.result (param w64 c.ranges.m).is c.ranges.m c.try_from.ensures (sym c.ok.ensures.value ∙ c.in_err-month.was))

-- a day below 0
pub returns-in_err-day-clause-is : goal.returns-in_err-day-clause-is
returns-in_err-day-clause-is c =
    c.from_residual-in_err-day.ensures ∙ day_of-day _ _ _ (tried_none c.try_from-2.result (param w64 c.ranges.d).is c.ranges.d c.try_from-2.ensures (sym c.ok-2.ensures.value ∙ c.in_err-day.was))

-- a year before -9999, or after 9999
pub returns-then-y-lt-LEAST_YEAR-clause-is : goal.returns-then-y-lt-LEAST_YEAR-clause-is
returns-then-y-lt-LEAST_YEAR-clause-is c =
    let y = param w64 c.ranges.y in
    elim c.then-y-lt-LEAST_YEAR.branch [
      | then-y-lt-LEAST_YEAR-via-then-y-lt-LEAST_YEAR w ↦ day_of-year _ _ _ (is_in_of_lt (negsuc 9998) (pos 9999) (lt_yes y (lit (negsuc 9998)) w.if-y-lt-LEAST_YEAR.true))
      | then-y-lt-LEAST_YEAR-via-else-y-lt-LEAST_YEAR+then-y-gt-MOST_YEAR w ↦ day_of-year _ _ _ (is_in_of_gt (negsuc 9998) (pos 9999) (lt_no y (lit (negsuc 9998)) w.if-y-lt-LEAST_YEAR.false) (lt_yes (lit (pos 9999)) y w.if-y-gt-MOST_YEAR.true))
    ]

pub overflow_add-y : goal.overflow_add-y
overflow_add-y c = fits w64 tt (add (known w64 tt (y-in c)) (lit (pos 10000)))

pub overflow_cast-y : goal.overflow_cast-y
overflow_cast-y c = unsign w64 tt (read w64 tt (add (known w64 tt (y-in c)) (lit (pos 10000))))

-- the calendar says whether the date exists
pub returns-clause-is : goal.returns-clause-is
returns-clause-is c =
    let p = (goal.at.returns-clause-is c).Else-y-gt-MOST_YEAR in
    let y = read w64 tt (add (known w64 tt (y-in p)) (lit (pos 10000))) in
    let m : c.args.m ≡ pos c.in_ok-month.month = tried_value c.try_from.result (param w64 c.ranges.m).is c.try_from.ensures (sym c.ok.ensures.value ∙ c.in_ok-month.was) in
    let d : c.args.d ≡ pos c.in_ok-day.day = tried_value c.try_from-2.result (param w64 c.ranges.d).is c.try_from-2.ensures (sym c.ok-2.ensures.value ∙ c.in_ok-day.was) in
    c.day_number.ensures.is ∙ (λ i. day_number (nat_abs (y.is i)) c.in_ok-month.month c.in_ok-day.day) ∙ day_of-value _ _ _ (y-in p) ∙ (λ i. day_of c.args.y (sym m i) (sym d i))
