-- `text::places::has` meets its contract.
use Rattle.std.proofs.Common.{◌∙◌}
use Rattle.text.proofs.Library.{has_is}
use Rattle.text.proofs.places.has.Goals as goal

pub returns : goal.returns
returns c = c.contains.ensures.value ∙ has_is c.args.b c.args.s.now
