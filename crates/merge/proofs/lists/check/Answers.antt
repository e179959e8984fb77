-- `merge::lists::check` meets its contract: both lengths first, then the lines of the first machine, then those of the second.
use Rattle.std.specs.Prelude.{Err}
use Rattle.std.proofs.lemmas.Result.{err_from_is_err_and}
use mathlib.Core.Path.{ap, ◌∙◌}
use Rattle.merge.specs.Lists.{lists_of}
use Rattle.merge.proofs.Checked.{or_else_refused, or_else_passed}
use Rattle.merge.proofs.lists.check.Goals as goal

pub returns-in_err-check_length : goal.returns-in_err-check_length
unfolding lists_of
returns-in_err-check_length c =
    let p = err_from_is_err_and c.from_residual.result c.from_residual.ensures.1 in p.1 ∙ ap Err p.2 ∙ or_else_refused _ _ _ c.in_err-check_length.ensures

pub returns-in_err-check_length-2 : goal.returns-in_err-check_length-2
unfolding lists_of
returns-in_err-check_length-2 c =
    let p = err_from_is_err_and c.from_residual-in_err-check_length-2.result c.from_residual-in_err-check_length-2.ensures.1 in
    or_else_passed _ _ _ c.in_ok-check_length.ensures (p.1 ∙ ap Err p.2 ∙ or_else_refused _ _ _ c.in_err-check_length-2.ensures)

-- the first list's lines
pub returns-in_err-check_lines : goal.returns-in_err-check_lines
unfolding lists_of
returns-in_err-check_lines c =
    let p = err_from_is_err_and c.from_residual-in_err-check_lines.result c.from_residual-in_err-check_lines.ensures.1 in
    or_else_passed _ _ _ c.in_ok-check_length.ensures
    (or_else_passed _ _ _ c.in_ok-check_length-2.ensures (p.1 ∙ ap Err p.2 ∙ or_else_refused _ _ _ c.in_err-check_lines.ensures))

-- and the second's
pub returns : goal.returns
unfolding lists_of
returns c =
    or_else_passed _ _ _ c.in_ok-check_length.ensures
    (or_else_passed _ _ _ c.in_ok-check_length-2.ensures (or_else_passed _ _ _ c.in_ok-check_lines.ensures c.check_lines-2.ensures))
