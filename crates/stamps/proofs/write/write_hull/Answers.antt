-- `stamps::write::write_hull` meets its contract: its three answers, each with the room that it leaves.
use mathlib.Core.Path.{sym, ◌∙◌}
use native.Mathlib.Omega.{arith}
use Rattle.stamps.specs.Writing.{hull_line, hull_written}
use Rattle.stamps.proofs.Writing.{wrote_nothing, wrote_too_short, wrote_line}
use Rattle.stamps.proofs.write.write_hull.Goals as goal

pub returns-then-room-n : goal.returns-then-room-n
unfolding hull_written
returns-then-room-n c =
    let all = wrote_too_short (hull_line c.args.path.now c.args.key.now c.args.time) c.args.room.now (sym c.is_hull.ensures ∙ c.if-not-is_hull.false)
    (omega (arith, c.if-room-n.true, c.hull_width-n.ensures)) in record { value = all.0; room_after = all.1 }

pub returns : goal.returns
unfolding hull_written
returns c =
    let all = wrote_line (hull_line c.args.path.now c.args.key.now c.args.time) c.args.room.now (sym c.is_hull.ensures ∙ c.if-not-is_hull.false) _ _
    c.hull_width-n.ensures c.if-room-n.false c.put_hull.ensures in record { value = all.0; room_after = all.1 }

pub returns-then-not-is_hull : goal.returns-then-not-is_hull
unfolding hull_written
returns-then-not-is_hull c =
    let all = wrote_nothing (hull_line c.args.path.now c.args.key.now c.args.time) c.args.room.now (sym c.is_hull.ensures ∙ c.if-not-is_hull.true) in record { value = all.0; room_after = all.1 }
