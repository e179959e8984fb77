use mathlib.Core.Path.{◌≡◌}
use Prim.Native.Nat.{◌-◌, ◌≤◌}
use lib.ListN.{length}
use Rattle.text.specs.Decimal.{decimal}
use Rattle.text.proofs.Putting.{put}
use Rattle.text.proofs.decimal.put_decimal.Given as goal

abbrev pub invariant-loop-v : goal.invariant-loop-v
invariant-loop-v l = (length (decimal l.v) ≤ l.i) × (l.i ≤ length l.room) × (put l.n l.end l.initial.room ≡ put l.v l.i l.room) × (length l.room ≡ length l.initial.room) × (l.end - length (decimal l.n) ≡ l.i - length (decimal l.v))

abbrev pub decreases-loop-v : goal.decreases-loop-v
decreases-loop-v l = l.v
