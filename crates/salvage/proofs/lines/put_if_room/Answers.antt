-- `salvage::lines::put_if_room` meets its contract.
use mathlib.Core.Path.{refl}
use Rattle.salvage.proofs.PutRows.{put_none, put_all}
use Rattle.salvage.proofs.lines.put_if_room.Goals as goal

-- there is no room
pub returns-then-room-end : goal.returns-then-room-end
returns-then-room-end c = record {
  value = refl;
  room_after = put_none c.args.part.now c.args.room.now c.args.at c.if-room-end.true;
}

pub returns-else-room-end : goal.returns-else-room-end
returns-else-room-end c = record {
  value = c.put_part.ensures.value;
  room_after = put_all c.args.part.now c.args.room.now _ c.args.at c.if-room-end.false c.put_part.ensures.room_after;
}
