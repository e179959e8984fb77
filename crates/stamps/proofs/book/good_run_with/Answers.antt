-- `stamps::book::good_run_with` meets its contract.
use mathlib.Core.Path.{sym, ◌∙◌}
use Rattle.relative.specs.Relative.{max_pairs}
use Rattle.stamps.proofs.Books.{survey_ok, whole_front}
use Rattle.stamps.proofs.book.good_run_with.Goals as goal

pub returns-in-Ok : goal.returns-in-Ok
returns-in-Ok c =
    let s = c.args.s.now in
    let good = (survey_ok max_pairs s _ (sym c.judge_lines.ensures.value ∙ c.in-Ok.is)).0 in
    (sym good, whole_front max_pairs s good)
