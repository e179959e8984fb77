-- `turns::reading::Reading::new` meets its contract.
use Rattle.turns.proofs.Readings.{read_on-start}
use Rattle.turns.proofs.reading.Reading.new.Goals as goal

pub returns : goal.returns
returns c = rw c.ok_or.ensures.value (read_on-start _ _)
