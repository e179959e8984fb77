-- `turns::reading::Reading::pass_over` meets its contract.
use Rattle.turns.proofs.Readings.{read_on-past}
use Rattle.turns.proofs.reading.Reading.pass_over.Goals as goal

pub returns : goal.returns
returns c = rw c.same_ignoring_case.ensures (read_on-past _ c.args.self _)
