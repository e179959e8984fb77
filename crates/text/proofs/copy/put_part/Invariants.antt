-- What `text::copy::put_part` keeps: the bytes from `at` on are the first i bytes of the part, and all others are as they were.
use mathlib.Core.Path.{◌≡◌}
use lib.Seq.{paste}
use Rattle.text.proofs.copy.put_part.Given as goal

abbrev pub invariant-loop-i : goal.invariant-loop-i
invariant-loop-i l = l.room ≡ paste l.initial.room l.at l.part l.i
