-- `merge::merge` meets its contract.
use Rattle.std.specs.Prelude.{Err}
use Rattle.std.proofs.lemmas.Result.{err_from_is_err_and}
use mathlib.Core.Path.{sym, ap, ◌∙◌}
use Rattle.relative.specs.Relative.{max_pairs}
use Rattle.merge.specs.Merge.{merged, report}
use Rattle.merge.proofs.MergedAnswers.{merges_refused}
use Rattle.merge.proofs.merge.Goals as goal

pub merge_good-requires : goal.merge_good-requires
merge_good-requires c = sym c.in_ok-check.ensures

-- two good lists
pub returns : goal.returns
returns c =
    let e = sym c.in_ok-check.ensures in
    let all = c.merge_good.ensures in
    record { value = rw e all.value; book_after = rw e all.book_after; report_after = rw e all.report_after }

-- lists of which one is not
pub returns-in_err-check : goal.returns-in_err-check
returns-in_err-check c =
    let first = c.args.first.now in
    let second = c.args.second.now in
    let p = err_from_is_err_and c.from_residual.result c.from_residual.ensures.1 in
    let all = merges_refused (merged max_pairs first second) c.args.book.now (report max_pairs first second) c.args.report.now _ _ c.in_err-check.ensures in
    record { value = p.1 ∙ ap Err p.2 ∙ all.0; book_after = all.1.0; report_after = all.1.1 }
