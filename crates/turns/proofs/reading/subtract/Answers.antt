-- `turns::reading::subtract` meets its contract.
use Rattle.std.specs.Prelude.{Err}
use Rattle.std.proofs.lemmas.Result.{err_from_is_err_and}
use mathlib.Core.Path.{ap, ◌∙◌}
use Rattle.turns.specs.Reading.{subtracted}
use Rattle.turns.proofs.reading.subtract.Goals as goal

-- a refusal
pub returns-in_err-from : goal.returns-in_err-from
unfolding subtracted
returns-in_err-from c =
    let p = err_from_is_err_and c.from_residual.result c.from_residual.ensures.1 in
    rw c.in_err-from.was (p.1 ∙ ap Err p.2)

pub returns : goal.returns
unfolding subtracted
returns c = rw c.in_ok-from.was c.pair_before.ensures
