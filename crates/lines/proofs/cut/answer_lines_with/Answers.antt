-- `lines::cut::answer_lines_with` meets its contract. The invariant: what is written, and the answers of what is left that fit, are the
-- answers of the whole that fit. The measure is what is left.
use Prim.Native.Nat.{◌<◌}
use native.Mathlib.Omega.{arith}
use Rattle.lines.proofs.Buffers.{going_start, going_again, stop_no_line, stop_full}
use Rattle.lines.proofs.cut.answer_lines_with.Goals as goal

pub loop-rest-init : goal.loop-rest-init
loop-rest-init c = going_start c.args.s.now c.args.out.now

pub returns-then-rest-e : goal.returns-then-rest-e
returns-then-rest-e c =
    let all = stop_no_line c.loop-rest.invariant _ _ c.from-rest.ensures c.first_place-e.ensures.0 c.if-rest-e.true in record { value = all.0; out_after = all.1.0; taken_in_bounds = all.1.1 }

pub answer_at-n-requires : goal.answer_at-n-requires
answer_at-n-requires c = record {
  at_in_bounds = omega (arith, c.loop-rest.invariant.within, c.loop-rest.invariant.size);
}

pub returns-then-n-eq0 : goal.returns-then-n-eq0
returns-then-n-eq0 c =
    let all = stop_full c.loop-rest.invariant _ _ _ _ _ c.from-rest.ensures c.first_place-e.ensures.0 c.if-rest-e.false c.up_to.ensures
    c.answer_at-n.ensures.value c.if-n-eq0.true c.answer_at-n.ensures.result_nonzero c.answer_at-n.ensures.out_after in record { value = all.0; out_after = all.1.0; taken_in_bounds = all.1.1 }

-- one line more is still within the buffer, and its answer within the room
pub loop-rest-preserved : goal.loop-rest-preserved
loop-rest-preserved c = let some : 0 < c.answer_at-n.result = omega (arith, c.if-n-eq0.false) in
    going_again c.loop-rest.invariant _ _ _ _ _ c.from-rest.ensures c.first_place-e.ensures.0 c.if-rest-e.false c.up_to.ensures
    c.answer_at-n.ensures.value some c.answer_at-n.ensures.out_after
