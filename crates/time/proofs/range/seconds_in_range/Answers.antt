-- `time::range::seconds_in_range` meets its contract.
use mathlib.Core.Path.{ap}
use mir.Syntax.{w64}
use Rattle.ints.specs.Range.{is_in}
use Rattle.ints.proofs.Machine.{back}
use Rattle.time.specs.Range.{least_seconds, most_seconds, seconds_in_range}
use Rattle.time.proofs.range.seconds_in_range.Goals as goal

pub returns : goal.returns
unfolding seconds_in_range
returns c = ap (is_in least_seconds most_seconds) (back w64 c.args.z c.well_formed.0)
