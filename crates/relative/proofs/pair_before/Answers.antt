-- `relative::pair_before` meets its contract.
use Rattle.std.specs.Prelude.{Err}
use Rattle.std.proofs.lemmas.Result.{err_from_is_err_and}
use mathlib.Core.Path.{sym, ap, ◌∙◌}
use Rattle.relative.specs.Steps.{steps}
use Rattle.relative.proofs.Cases.{from_of_start}
use Rattle.relative.proofs.pair_before.Goals as goal

-- 3 or 4
pub returns-in_err-start : goal.returns-in_err-start
returns-in_err-start c =
    let p = err_from_is_err_and c.from_residual.result c.from_residual.ensures.1 in
    p.1 ∙ ap Err p.2 ∙ sym (from_of_start _ _ _ c.in_err-start.ensures.is)

pub returns : goal.returns
unfolding steps
returns c = c.answer.ensures ∙ c.subtract_pair.ensures.is ∙ sym (from_of_start _ _ _ c.in_ok-start.ensures.is)
