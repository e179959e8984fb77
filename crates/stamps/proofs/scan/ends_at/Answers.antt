-- `stamps::scan::ends_at` meets its contract.
use mathlib.Core.Path.{sym, ◌∙◌}
use borrow.Author.Tests.{le-leb}
use Rattle.stamps.proofs.Scans.{ends_here_of_le, ends_here_of_lt}
use Rattle.stamps.proofs.scan.ends_at.Goals as goal

pub returns-then-s-at : goal.returns-then-s-at
returns-then-s-at c = le-leb _ _ c.if-s-at.true ∙ sym (ends_here_of_le _ _ c.if-s-at.true)

pub returns-else-s-at : goal.returns-else-s-at
returns-else-s-at c = sym (ends_here_of_lt _ _ c.if-s-at.false)
