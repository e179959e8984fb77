-- `header::walk::usual_tail` meets its contract: a number ends within the text.
use Rattle.header.proofs.Shortcuts.{end-le-length}
use Rattle.header.proofs.walk.usual_tail.Goals as goal

pub usual_fields-requires : goal.usual_fields-requires
usual_fields-requires c = end-le-length _ _ c.requires
