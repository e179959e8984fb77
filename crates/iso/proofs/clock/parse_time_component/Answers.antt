-- `iso::clock::parse_time_component` meets its contract.
use mathlib.Core.Path.{◌∙◌}
use Rattle.iso.proofs.Times.{iso_time-colon, iso_time-plain}
use Rattle.iso.proofs.clock.parse_time_component.Goals as goal

-- with colons
pub returns-then-i-t-clause-is : goal.returns-then-i-t-clause-is
returns-then-i-t-clause-is c =
    iso_time-colon _ _ c.first_place-i.ensures.0 _ c.if-i-t.true c.colon_time.ensures.is

-- without
pub returns-else-i-t-clause-is : goal.returns-else-i-t-clause-is
returns-else-i-t-clause-is c =
    c.plain_time.ensures.is ∙ iso_time-plain _ _ c.first_place-i.ensures.0 c.if-i-t.false
