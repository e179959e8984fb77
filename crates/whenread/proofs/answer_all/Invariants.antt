-- `whenread::answer_all` is safe and ends. The invariant: what is held leaves room for a read.
use Rattle.std.proofs.Common.{◌≤◌}
use Rattle.lines.specs.Lines.{max_kept}
use Rattle.whenread.proofs.answer_all.Given as goal

abbrev pub invariant-loop : goal.invariant-loop
invariant-loop l = l.held ≤ max_kept
