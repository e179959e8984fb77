-- `lines::row_of` meets its contract: what the form's reader answers, or 9.
use mathlib.Core.Path.{sym, ◌∙◌}
use Rattle.lines.proofs.Answering.{row_asked, row_wrong}
use Rattle.lines.proofs.row_of.Goals as goal

pub returns-in_default : goal.returns-in_default
returns-in_default c = row_wrong c.args.line.now (sym c.parse_line.ensures ∙ c.in_default.is)

pub returns : goal.returns
returns c = row_asked c.args.line.now _ _ _ _ (sym c.parse_line.ensures ∙ c.in-Some.is) c.from.ensures c.parse_as.ensures c.row_for.ensures
