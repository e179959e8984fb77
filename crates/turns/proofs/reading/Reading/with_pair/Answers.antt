-- `turns::reading::Reading::with_pair` meets its contract.
use native.Mathlib.Omega.{arith}
use Rattle.relative.specs.Relative.{max_pairs}
use Rattle.turns.proofs.Readings.{read_on-pair, read_on-beyond}
use Rattle.turns.proofs.reading.Reading.with_pair.Goals as goal

pub returns-then-self-lt-MAX_PAIRS : goal.returns-then-self-lt-MAX_PAIRS
returns-then-self-lt-MAX_PAIRS c =
    let a = c.args in
    rw (c.is_known.ensures, c.subtract.ensures) (read_on-pair _ a.self a.pair)

pub returns-else-self-lt-MAX_PAIRS : goal.returns-else-self-lt-MAX_PAIRS
returns-else-self-lt-MAX_PAIRS c =
    let a = c.args in
    rw c.is_known.ensures (read_on-beyond max_pairs a.self a.pair _ _ (omega (arith, c.if-self-lt-MAX_PAIRS.false)) (omega arith))
