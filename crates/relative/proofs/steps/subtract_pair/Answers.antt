-- `relative::steps::subtract_pair` meets its contract.
use native.Mathlib.Nat.{mul-one}
use Rattle.relative.specs.Steps.{step, landing}
use Rattle.relative.proofs.steps.subtract_pair.Goals as goal

pub returns-in-Seconds-clause-is : goal.returns-in-Seconds-clause-is
unfolding step landing
returns-in-Seconds-clause-is c = rw c.in-Seconds.is c.seconds_back.ensures.is

pub returns-in-Months-clause-is : goal.returns-in-Months-clause-is
unfolding step landing
returns-in-Months-clause-is c = rw c.in-Months.is c.months_earlier.ensures.is

pub returns-in-Unknown-clause-is : goal.returns-in-Unknown-clause-is
unfolding step landing
returns-in-Unknown-clause-is c = rw c.in-Unknown.is (rw mul-one at c.seconds_back-in-Unknown.ensures.is)
