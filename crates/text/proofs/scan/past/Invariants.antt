-- What `text::scan::past` keeps: the place past the run from i on is the place past the run from `at` on. What is left of the text falls.
use Rattle.std.proofs.Common.{◌≡◌, length, ◌-◌}
use Rattle.text.specs.Places.{past}
use Rattle.text.proofs.scan.past.Given as goal

abbrev pub invariant-loop-i : goal.invariant-loop-i
invariant-loop-i g l = past g.C.Class.holds l.s l.at ≡ past g.C.Class.holds l.s l.i

abbrev pub decreases-loop-i : goal.decreases-loop-i
decreases-loop-i g l = length l.s - l.i
