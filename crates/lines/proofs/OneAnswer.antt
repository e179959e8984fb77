-- RULES 12.5: two answers that meet the contract of a public call of `lines` are equal, with every byte of the caller's buffer.
-- Assumes nothing.
use mathlib.Core.List.{List}
use Prim.Native.Nat.{ℕ}
use Rattle.dates.specs.OneAnswer.{OneAnswer, OneAnswerAnd}
use Rattle.dates.proofs.Contracts.{one_answer}
use Rattle.lines.proofs.answer.Reads as answer
use Rattle.lines.proofs.answer_with.Reads as answer-with
use Rattle.lines.proofs.cut.answer_lines.Reads as answer-lines
use Rattle.lines.proofs.cut.answer_lines_with.Reads as answer-lines-with
use Rattle.lines.proofs.cut.keep.Reads as keep
use Rattle.lines.proofs.layout.parse_line.Reads as parse-line
use Rattle.lines.proofs.print.write_row.Reads as write-row

pub answer_unique : OneAnswerAnd answer.Post (List ℕ) (λ κ e. e.1.0.now)
answer_unique κ a r s e f p q = (one_answer p.0 q.0, one_answer p.1.0 q.1.0)

pub answer_with_unique : OneAnswerAnd answer-with.Post (List ℕ) (λ κ e. e.1.1.0.now)
answer_with_unique κ a r s e f p q = (one_answer p.0 q.0, one_answer p.1.0 q.1.0)

pub answer_lines_unique : OneAnswerAnd answer-lines.Post (List ℕ) (λ κ e. e.1.0.now)
answer_lines_unique κ a r s e f p q = (one_answer p.0 q.0, one_answer p.1.0 q.1.0)

pub answer_lines_with_unique : OneAnswerAnd answer-lines-with.Post (List ℕ) (λ κ e. e.1.1.0.now)
answer_lines_with_unique κ a r s e f p q = (one_answer p.0 q.0, one_answer p.1.0 q.1.0)

-- what it leaves in the buffer is stated with its result, so the results are made equal first
pub keep_unique : OneAnswerAnd keep.Post (List ℕ) (λ κ e. e.0.now)
keep_unique κ a r s e f p q =
    let same = one_answer p.0 q.0 in
    (same, one_answer p.1.0 (rw same q.1.0))

pub parse_line_unique : OneAnswer parse-line.Post
parse_line_unique κ a r s e f = one_answer

pub write_row_unique : OneAnswerAnd write-row.Post (List ℕ) (λ κ e. e.1.0.now)
write_row_unique κ a r s e f p q = (one_answer p.0 q.0, one_answer p.1.0 q.1.0)
