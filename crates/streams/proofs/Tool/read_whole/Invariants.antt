-- `streams::Tool::read_whole` is safe and ends. The invariant: no more bytes are held than the room has.
-- Assumes nothing.
use Rattle.std.proofs.Common.{◌≤◌, length}
use Rattle.streams.proofs.Tool.read_whole.Given as goal

abbrev pub invariant-loop : goal.invariant-loop
invariant-loop g l = l.held ≤ length l.room
