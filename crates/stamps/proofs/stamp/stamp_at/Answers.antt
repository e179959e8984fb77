-- `stamps::stamp::stamp_at` meets its contract: seconds and tail in turn are the stamp of the line.
use Rattle.std.specs.Prelude.{Some}
use mathlib.Core.Path.{ap, ◌∙◌}
use mir.Syntax.{w32, w64}
use mir.Val.{SFits}
use mir.ValLaws.{to_z-of_z}
use borrow.Author.Rules.{rules}
use Rattle.time.specs.Answers.{time_marked}
use Rattle.stamps.proofs.Fronts.{stamp_of_no_seconds, stamp_of_no_tail, stamp_of-seconds_tail}
use Rattle.stamps.proofs.stamp.stamp_at.Goals as goal

pub returns-in_err-z : goal.returns-in_err-z
returns-in_err-z c =
    let a = c.args in
    rw c.from_residual.ensures (stamp_of_no_seconds a.s.now a.at c.printed_at-seconds.result c.printed_at-seconds.ensures c.in_err-z.was)

pub returns-in_err-tail : goal.returns-in_err-tail
returns-in_err-tail c =
    let a = c.args in
    rw c.from_residual-in_err-tail.ensures (stamp_of_no_tail a.s.now a.at c.printed_at-seconds.result c.printed_at-seconds.ensures c.in_ok-z.z c.in_ok-z.was
    c.tail_at.result c.tail_at.ensures c.in_err-tail.was)

pub returns : goal.returns
returns c =
    let a = c.args in
    let t = c.in_ok-tail.tail in
    let z : SFits w64 c.in_ok-z.z = search rules in
    let o : SFits w32 t.offset = search rules in
    ap Some (c.with_mark.ensures ∙ λ i. time_marked (to_z-of_z w64 c.in_ok-z.z z i) (to_z-of_z w32 t.offset o i) t.mark)
    ∙ stamp_of-seconds_tail a.s.now a.at c.printed_at-seconds.result c.printed_at-seconds.ensures c.in_ok-z.z c.in_ok-z.was c.tail_at.result c.tail_at.ensures t c.in_ok-tail.was
