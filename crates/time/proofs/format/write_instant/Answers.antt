-- `time::format::write_instant` meets its contract: the three parts of a line, one behind the other.
use mathlib.Core.Path.{◌∙◌, ap}
use mathlib.Core.List.{◌++◌}
use lib.IntN.{ℤ}
use lib.ListN.{take, drop}
use mir.Syntax.{w32}
use Rattle.ints.proofs.Machine.{param}
use Rattle.time.specs.Iso.{offset_before}
use Rattle.time.proofs.Isos.{wrote_clock-whole}
use Rattle.time.proofs.format.write_instant.Goals as goal

pub returns-clause-room_after : goal.returns-clause-room_after
returns-clause-room_after c =
    let l = c.args.room.now in
    let o = c.put_offset.ensures ∙ ap (λ (z : ℤ). take 19 l ++ offset_before z (drop 25 l)) (param w32 c.ranges.offset).is in
    rw (← c.local_clock-c.ensures.is) (wrote_clock-whole c.local_clock-c.result c.args.offset l _ _ _ c.if-c-lt-MONTH_OF_YEAR_0.false
    c.local_clock-c.ensures.months c.if-room-lt-LINE_LENGTH.false o c.put_clock.ensures c.put_date.ensures)
