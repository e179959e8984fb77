-- `strip::month_of` meets its contract: its test is that of the definition, and past it neither the sum nor a cast loses anything.
use Rattle.std.specs.Prelude.{Some}
use mathlib.Core.Path.{◌≡◌, sym, ap, ◌∙◌}
use mathlib.Core.Bool.{false, ◌&&◌}
use native.Mathlib.Omega.{arith}
use lib.IntN.{pos, negsuc, nat_abs}
use mir.Syntax.{w64}
use mir.Facts.{to_z-of_z}
use Rattle.ints.specs.Range.{is_in}
use Rattle.ints.proofs.Machine.{lit, known, add, read, In_of_is_in}
use Rattle.text.proofs.Lists.{both}
use Rattle.calendar.specs.Civil.{is_year}
use Rattle.strip.specs.Strip.{month_in}
use Rattle.strip.proofs.Months.{month_in_of_In}
use Rattle.strip.proofs.month_of.Goals as goal

pub returns-then-is_year-is_month-clause-is : goal.returns-then-is_year-is_month-clause-is
returns-then-is_year-is_month-clause-is c =
    let y = c.args.year in
    let m = c.args.month in
    let test = rw (to_z-of_z {w = w64} c.ranges.year, to_z-of_z {w = w64} c.ranges.month) at c.if-is_year-is_month.true in
    let p = both (is_year y) (is_in (pos 1) (pos 12) m) test in
    let year = In_of_is_in (negsuc 9998) (pos 9999) y p.0 in
    let month = In_of_is_in (pos 1) (pos 12) m p.1 in
    let sum = read w64 tt (add (known w64 tt year) (lit (pos 10000))) in
    ap Some (omega (arith, ap nat_abs sum.is, ap nat_abs (known w64 tt month).is)) ∙ sym (month_in_of_In y m year month)

-- no such month
pub returns-else-is_year-is_month-clause-is : goal.returns-else-is_year-is_month-clause-is
unfolding month_in
returns-else-is_year-is_month-clause-is c =
    let test : (is_year c.args.year && is_in (pos 1) (pos 12) c.args.month) ≡ false = rw (to_z-of_z {w = w64} c.ranges.year, to_z-of_z {w = w64} c.ranges.month) at c.if-is_year-is_month.false in
    rw test
