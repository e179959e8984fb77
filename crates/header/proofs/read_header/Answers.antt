-- `header::read_header` meets its contract: for a number alone and for the usual form, the number and the fields after it
-- decide; any other text is read word by word.
use mathlib.Core.Path.{sym, ◌∙◌}
use Rattle.header.proofs.Shortcuts.{usual_small, header_of_of_usual, header_of_of_alone}
use Rattle.header.proofs.read_header.Goals as goal

-- a number alone
pub returns-then-opening-s : goal.returns-then-opening-s
returns-then-opening-s c = c.header_time.ensures ∙ sym (header_of_of_alone _ _ c.open-opening.ensures c.if-opening-s.true)

-- the usual form
pub header_time-requires-2 : goal.header_time-requires-2
header_time-requires-2 c =
    usual_small _ _ c.open-opening.ensures _ (sym c.usual_tail.ensures ∙ c.in-Some.is)

pub returns : goal.returns
returns c =
    c.header_time-2.ensures ∙ sym (header_of_of_usual _ _ c.open-opening.ensures _ (sym c.usual_tail.ensures ∙ c.in-Some.is))
