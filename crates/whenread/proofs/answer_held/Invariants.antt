-- `whenread::answer_held` is safe and ends. The invariant: what is answered lies within what is held, and the buffer keeps its length.
-- The measure is what is left.
use Rattle.std.proofs.Common.{◌≡◌, ◌-◌, ◌≤◌, length}
use Rattle.whenread.proofs.answer_held.Given as goal

abbrev pub invariant-loop-from : goal.invariant-loop-from
invariant-loop-from l = record {
  within : l.from ≤ l.end;
  buffer_kept : length l.buffer ≡ length l.initial.buffer;
}

abbrev pub decreases-loop-from : goal.decreases-loop-from
decreases-loop-from l = l.end - l.from
