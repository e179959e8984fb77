-- `header::raw::read_raw` meets its contract: for a number alone and for the usual form, the number and the fields after it
-- decide; any other text is read word by word.
use mathlib.Core.Path.{sym, ◌∙◌}
use Rattle.header.proofs.Shortcuts.{usual_small, raw_of_of_usual, raw_of_of_alone}
use Rattle.header.proofs.raw.read_raw.Goals as goal

-- a number alone
pub returns-then-opening-s : goal.returns-then-opening-s
returns-then-opening-s c = c.raw_time.ensures ∙ sym (raw_of_of_alone _ _ c.open-opening.ensures c.if-opening-s.true _)

-- a text of any other form
pub returns-in_default : goal.returns-in_default
returns-in_default c = c.anew.ensures ∙ c.parse_words.ensures

-- the usual form
pub raw_time-requires-2 : goal.raw_time-requires-2
raw_time-requires-2 c =
    usual_small _ _ c.open-opening.ensures _ (sym c.usual_tail.ensures ∙ c.in-Some.is)

pub returns : goal.returns
returns c =
    c.raw_time-2.ensures ∙ sym (raw_of_of_usual _ _ c.open-opening.ensures _ (sym c.usual_tail.ensures ∙ c.in-Some.is) _)
