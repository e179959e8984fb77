-- `relative::steps::start_of` meets its contract.
use mathlib.Core.Path.{sym}
use Rattle.relative.proofs.Cases.{start_of-moved_of}
use Rattle.relative.proofs.steps.start_of.Goals as goal

pub returns-clause-is : goal.returns-clause-is
returns-clause-is c = rw (c.in_ok-time.ensures.ok_part, c.ok_or-2.ensures.value, c.instant_of.ensures.value) (sym (start_of-moved_of c.in_ok-time.time))
