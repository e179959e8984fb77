-- `calendar::months_back` meets its contract: the date at hand is the day's one date, and its month and day are the definition's.
use mathlib.Core.Path.{sym}
use native.Mathlib.Omega.{arith}
use Rattle.calendar.proofs.Dates.{IsDate_of_date_of}
use Rattle.calendar.proofs.Back.{back_of_of_IsDate, back_of_of_lt, back-le}
use Rattle.calendar.proofs.table.MonthTable.months_back.Goals as goal

-- the month is too early
pub returns-in_err-month-clause-is : goal.returns-in_err-month-clause-is
returns-in_err-month-clause-is c =
    rw c.from_residual.ensures (sym (back_of_of_lt _ _ (IsDate_of_date_of c.date_of-x.ensures.is) (omega (arith, c.in_err-month.ensures))))

-- the month is there
pub returns : goal.returns
returns c =
    let t = c.args.local in
    let n = c.args.n in
    let p = IsDate_of_date_of c.date_of-x.ensures.is in record {
      is = rw (c.first_day.ensures.is, c.in_ok-month.ensures.1) (sym (back_of_of_IsDate t n p (omega (arith, c.in_ok-month.ensures.0))));
      range = rw (c.first_day.ensures.is, c.in_ok-month.ensures.1) (omega (arith, back-le t n p));
    }
