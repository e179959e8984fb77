-- `stamps::line::read_with` meets its contract: a line is good only if its first line is all of it.
use mathlib.Core.Path.{sym, ◌∙◌}
use Rattle.relative.specs.Relative.{max_pairs}
use Rattle.stamps.proofs.Reading.{read_whole, read-not-whole, read_bad}
use Rattle.stamps.proofs.line.read_with.Goals as goal

-- its first line is bad
pub returns-in_err-first : goal.returns-in_err-first
returns-in_err-first c = rw c.from_residual.ensures (read_bad max_pairs c.args.line.now (sym c.first_line.ensures ∙ c.in_err-first.was))

-- all of the text was read
pub returns-then-first-line : goal.returns-then-first-line
returns-then-first-line c = read_whole max_pairs c.args.line.now c.in_ok-first.first (sym c.first_line.ensures ∙ c.in_ok-first.was) c.if-first-line.true

-- the text goes on
pub returns-else-first-line : goal.returns-else-first-line
returns-else-first-line c = read-not-whole max_pairs c.args.line.now c.in_ok-first.first (sym c.first_line.ensures ∙ c.in_ok-first.was) c.if-first-line.false
