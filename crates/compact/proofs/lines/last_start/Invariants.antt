use mathlib.Core.Path.{◌≡◌}
use lib.ListN.{take}
use Rattle.text.specs.Lines.{ended_lines}
use Rattle.compact.proofs.lines.last_start.Given as goal

abbrev pub invariant-loop-i : goal.invariant-loop-i
invariant-loop-i l = ended_lines l.s ≡ ended_lines (take l.i l.s)
