-- `iso::clock::plain_time` meets its contract.
use native.Mathlib.Omega.{arith}
use borrow.Author.Tests.{ne_eqb}
use lib.ListN.{length}
use Rattle.iso.specs.Clock.{plain_time}
use Rattle.iso.proofs.clock.plain_time.Goals as goal

-- HH
pub returns-in-2-clause-is : goal.returns-in-2-clause-is
unfolding plain_time
returns-in-2-clause-is c = rw (c.clock.ensures.is, c.two.ensures, c.in-2.is)

-- HHMM
pub returns-in-4-clause-is : goal.returns-in-4-clause-is
unfolding plain_time
returns-in-4-clause-is c = rw (c.clock-in-4.ensures.is, c.two-in-4-2.ensures, c.two-in-4.ensures, c.in-4.is)

-- HHMMSS
pub returns-in-6-clause-is : goal.returns-in-6-clause-is
unfolding plain_time
returns-in-6-clause-is c = rw (c.clock-in-6.ensures.is, c.two-in-6-3.ensures, c.two-in-6-2.ensures, c.two-in-6.ensures, c.in-6.is)

-- any other length
pub returns-in_default-clause-is : goal.returns-in_default-clause-is
unfolding plain_time
returns-in_default-clause-is c =
    rw (ne_eqb (length c.args.t.now) 2 (λ e. omega (arith, e)), ne_eqb (length c.args.t.now) 4 (λ e. omega (arith, e)), ne_eqb (length c.args.t.now) 6 (λ e. omega (arith, e)))
