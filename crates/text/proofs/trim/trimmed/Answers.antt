-- `text::trim::trimmed` meets its contract.
use Rattle.text.specs.Trim.{trim}
use Rattle.text.proofs.trim.trimmed.Goals as goal

pub returns : goal.returns
unfolding trim
returns c = rw (← c.trimmed_start.ensures) c.trimmed_end.ensures
