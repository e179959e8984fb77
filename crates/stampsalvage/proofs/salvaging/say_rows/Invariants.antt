-- The invariant of `stampsalvage::salvaging::say_rows`: no more bytes are gathered in the room than it has.
use Rattle.std.proofs.Common.{◌≤◌, length}
use Rattle.stampsalvage.proofs.salvaging.say_rows.Given as goal

abbrev pub invariant-loop-line : goal.invariant-loop-line
invariant-loop-line l = l.held ≤ length l.room
