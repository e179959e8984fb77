-- `calendar::by_rule` meets its contract: the days from March are those that one pass along the cycle has tested.
use native.Mathlib.Omega.{arith}
use Rattle.calendar.proofs.Cycle.{from_march-first_day}
use Rattle.calendar.proofs.by_rule.Goals as goal

pub returns : goal.returns
returns c = omega (arith, from_march-first_day c.args.k c.requires)
