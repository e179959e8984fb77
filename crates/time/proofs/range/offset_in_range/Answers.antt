-- `time::range::offset_in_range` meets its contract.
use mathlib.Core.Path.{ap}
use mir.Syntax.{w32}
use Rattle.ints.specs.Range.{is_in}
use Rattle.ints.proofs.Machine.{back}
use Rattle.time.specs.Range.{least_offset, most_offset, offset_in_range}
use Rattle.time.proofs.range.offset_in_range.Goals as goal

pub returns : goal.returns
unfolding offset_in_range
returns c = ap (is_in least_offset most_offset) (back w32 c.args.o c.well_formed.0)
