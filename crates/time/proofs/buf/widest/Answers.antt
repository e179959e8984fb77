-- `time::buf::widest` meets its contract.
use mathlib.Core.Path.{◌∙◌}
use Rattle.time.proofs.Theorems.{size_of_the_least}
use Rattle.time.proofs.buf.widest.Goals as goal

pub returns : goal.returns
returns c = c.size.ensures.0 ∙ size_of_the_least
