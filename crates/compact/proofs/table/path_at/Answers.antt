-- `compact::table::path_at` meets its contract.
use mathlib.Core.Path.{ap, ◌∙◌}
use Rattle.text.specs.Places.{before}
use Rattle.text.specs.Lines.{tab}
use Rattle.compact.specs.Held.{path_at}
use Rattle.compact.proofs.table.path_at.Goals as goal

-- a line of `hull`
pub returns-then-opens_hull : goal.returns-then-opens_hull
unfolding path_at
returns-then-opens_hull c =
    c.before-then-opens_hull.ensures ∙ ap (before tab) c.from.ensures ∙ rw (← c.opens_hull.ensures, c.if-opens_hull.true)

-- a line of `since`
pub returns-else-opens_hull : goal.returns-else-opens_hull
unfolding path_at
returns-else-opens_hull c = rw (← c.opens_hull.ensures, c.if-opens_hull.false)
