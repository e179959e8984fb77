-- `merge::fronts::check` meets its contract: the first machine's front line before the second's.
use Rattle.std.specs.Prelude.{Err}
use Rattle.std.proofs.lemmas.Result.{err_from_is_err_and}
use mathlib.Core.Path.{ap, ◌∙◌}
use Rattle.merge.specs.Fronts.{front_fault, fronts_of}
use Rattle.merge.specs.declared.lists.Machine.TheVariants.{First, Second}
use Rattle.merge.proofs.Checked.{or_else_refused, or_else_passed}
use Rattle.merge.proofs.fronts.check.Goals as goal

-- the first machine's is bad
pub returns-in_err-check_front : goal.returns-in_err-check_front
unfolding fronts_of
returns-in_err-check_front c =
    let p = err_from_is_err_and c.from_residual.result c.from_residual.ensures.1 in
    p.1 ∙ ap Err p.2 ∙ or_else_refused _ _ _ (c.in_err-check_front.ensures ∙ ap (front_fault First) c.front_of.ensures)

-- it is not: the answer is the second's
pub returns : goal.returns
unfolding fronts_of
returns c =
    or_else_passed _ _ _ (c.in_ok-check_front.ensures ∙ ap (front_fault First) c.front_of.ensures) (c.check_front-2.ensures ∙ ap (front_fault Second) c.front_of-2.ensures)
