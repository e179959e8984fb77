-- `iso::clock::colon_time` meets its contract.
use mathlib.Core.Path.{◌∙◌}
use Rattle.iso.proofs.Times.{colon_time-third, colon_time-second}
use Rattle.iso.proofs.clock.colon_time.Goals as goal

-- a colon more: the third part ends at the next
pub returns-then-i-s-clause-is : goal.returns-then-i-s-clause-is
returns-then-i-s-clause-is c =
    c.clock.ensures.is ∙ colon_time-third _ _ _ c.first_place-i.ensures.0 _ c.if-i-s.true c.before-then-i-s.ensures

-- two parts
pub returns-else-i-s-clause-is : goal.returns-else-i-s-clause-is
returns-else-i-s-clause-is c =
    c.clock-else-i-s.ensures.is ∙ colon_time-second _ _ _ c.first_place-i.ensures.0 c.if-i-s.false
