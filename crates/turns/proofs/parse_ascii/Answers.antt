-- `turns::parse_ascii` meets its contract.
use mathlib.Core.Path.{◌∙◌}
use Rattle.relative.specs.Relative.{by_pairs}
use Rattle.turns.proofs.parse_ascii.Goals as goal

-- a text that is not one of the names
pub returns-in-None : goal.returns-in-None
unfolding by_pairs
returns-in-None c = rw (← c.parse_named.ensures, c.in-None.is) (c.await_count.ensures ∙ c.new.ensures _ _)
