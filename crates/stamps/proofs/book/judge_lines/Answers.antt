-- `stamps::book::judge_lines` meets its contract. The invariant: the lines in front of `at` are good, and with what the lines
-- from `at` on give, their number, their length and their marks make the answer for the whole. The measure is what is left.
use mathlib.Core.Path.{refl, sym, ◌∙◌}
use native.Mathlib.Omega.{arith}
use Rattle.relative.specs.Relative.{max_pairs}
use Rattle.stamps.proofs.Books.{judging_start, judging_again, judging_stop, judging_end, or_is, with_listed, without_listed}
use Rattle.stamps.proofs.book.judge_lines.Goals as goal
use Rattle.stamps.proofs.book.judge_lines.Goals.{then-next, else-next}

pub loop-at-init : goal.loop-at-init
loop-at-init c = judging_start max_pairs c.args.book.now c.args.marks.now

-- a bad line
pub returns-in_default : goal.returns-in_default
returns-in_default c =
    let all = judging_stop c.loop-at.invariant _ c.from.ensures c.loop-at-test.true (sym c.next_line.ensures ∙ c.in_default.is) in record { value = all.value; marks_after = all.marks_after }

-- a good line
pub loop-at-preserved : goal.loop-at-preserved
loop-at-preserved c =
    judging_again c.loop-at.invariant _ c.from.ensures c.loop-at-test.true _ (sym c.next_line.ensures ∙ c.in-Some.is) _ _
    c.put_mark.ensures (elim c.if-next.branch [ then-next w ↦ w.length-is ∙ with_listed _ _ _ w.if-next.true | else-next w ↦ w.length-is ∙ without_listed _ _ _ w.if-next.false ]) _ (c.or-cut_off.ensures ∙ or_is c.in-Some.next.cut_off c.loop-at.cut_off)

pub overflow_add-length : goal.overflow_add-length
overflow_add-length c =
    let again = judging_again c.loop-at.invariant _ c.from.ensures c.loop-at-test.true _ (sym c.next_line.ensures ∙ c.in-Some.is) _ _
    c.put_mark.ensures (with_listed _ _ _ c.if-next.true) _ (c.or-cut_off.ensures ∙ or_is c.in-Some.next.cut_off c.loop-at.cut_off) in
    record { fits = omega (arith, again.shorter, again.within) }

pub overflow_add-at : goal.overflow_add-at
overflow_add-at c =
    let again = judging_again c.loop-at.invariant _ c.from.ensures c.loop-at-test.true _ (sym c.next_line.ensures ∙ c.in-Some.is) _ _
    c.put_mark.ensures refl _ (c.or-cut_off.ensures ∙ or_is c.in-Some.next.cut_off c.loop-at.cut_off) in
    record { fits = omega (arith, again.within) }

pub returns : goal.returns
returns c =
    let all = judging_end c.loop-at.invariant c.loop-at-test.false in record { value = all.value; marks_after = all.marks_after }
