-- `stampsalvage::salvaging::say_rows` is safe: a row is cut at 32 bytes, and what is gathered stays within the room.
use mathlib.Core.Path.{ap}
use native.Mathlib.Omega.{arith}
use native.Mathlib.Nat.{min-le_left}
use lib.ListN.{length, length-take}
use Rattle.stampsalvage.proofs.salvaging.say_rows.Goals as goal

pub make_room-next-requires : goal.make_room-next-requires
make_room-next-requires c = (c.loop-line.invariant, omega (arith, c.requires, c.loop-line.auto.room))

pub put_message-held-requires-clause-row_len_bound : goal.put_message-held-requires-clause-row_len_bound
put_message-held-requires-clause-row_len_bound c =
    let row = c.before-in-loop-line.result.now in
    omega (arith, ap length c.up_to-row.ensures, length-take 32 row, min-le_left 32 (length row))

pub loop-line-preserved : goal.loop-line-preserved
loop-line-preserved c = omega (arith, c.put_message-held.ensures.upper_bound, c.make_room-next.ensures, c.put_message-held.auto.room)
