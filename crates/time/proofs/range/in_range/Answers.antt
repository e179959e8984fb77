-- `time::range::in_range` meets its contract.
use mathlib.Core.Path.{sym}
use Rattle.time.proofs.Ranges.{seconds_in_range-since1970}
use Rattle.time.proofs.range.in_range.Goals as goal

pub returns : goal.returns
returns c = sym (seconds_in_range-since1970 c.args.n)
