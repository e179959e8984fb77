-- `stamps::line::stamped_hull` meets its contract: a time that is no stamp, and one that is.
use Rattle.stamps.proofs.HullLines.{hull_stamped}
use Rattle.stamps.proofs.line.stamped_hull.Goals as goal

-- a stamp: its header is what is left of the line
pub returns : goal.returns
returns c =
    hull_stamped c.args.s.now _ _ c.requires.0 c.requires.1 c.requires.2 _ _ _ c.stamp_at.ensures c.in_ok-time.was c.size.ensures.0
