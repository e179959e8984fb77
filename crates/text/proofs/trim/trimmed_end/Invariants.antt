use Rattle.std.proofs.Common.{◌≡◌, take}
use Rattle.text.specs.Trim.{trim_end}
use Rattle.text.proofs.trim.trimmed_end.Given as goal

abbrev pub invariant-loop-i : goal.invariant-loop-i
invariant-loop-i l = trim_end l.s ≡ trim_end (take l.i l.s)
