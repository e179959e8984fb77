-- `stamps::book::check_with` meets its contract.
use mathlib.Core.Path.{sym, ◌∙◌}
use Rattle.std.proofs.lemmas.Result.{err_from_is_err_and}
use Rattle.relative.specs.Relative.{max_pairs}
use Rattle.stamps.proofs.Books.{check_of-long, check_of-good, check_of-bad, survey_ok, survey_err}
use Rattle.stamps.proofs.book.check_with.Goals as goal

-- the book is too long
pub returns-then-book-gt-MAX_BOOK : goal.returns-then-book-gt-MAX_BOOK
returns-then-book-gt-MAX_BOOK c = check_of-long max_pairs c.args.book.now c.if-book-gt-MAX_BOOK.true

-- a line is bad
pub returns-in_err-judge_lines : goal.returns-in_err-judge_lines
returns-in_err-judge_lines c =
    let book = c.args.book.now in
    let p = err_from_is_err_and c.from_residual.result c.from_residual.ensures.1 in
    let bad = survey_err max_pairs book _ (sym c.judge_lines.ensures.value ∙ c.in_err-judge_lines.was) in
    rw (p.1, p.2) (check_of-bad max_pairs book _ c.if-book-gt-MAX_BOOK.false bad.0)

pub returns : goal.returns
returns c =
    let book = c.args.book.now in
    check_of-good max_pairs book c.if-book-gt-MAX_BOOK.false (survey_ok max_pairs book _ (sym c.judge_lines.ensures.value ∙ c.in_ok-judge_lines.was)).0
