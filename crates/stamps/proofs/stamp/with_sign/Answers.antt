-- `stamps::stamp::with_sign` meets its contract: a size this small fits with either sign.
use Prim.Native.Nat.{ℕ, ◌≤◌}
use lib.Dec.{eqb}
use lib.IntN.{pos}
use mir.Syntax.{w32}
use mir.Val.{to_z}
use Rattle.ints.proofs.Machine.{At, cast, negated, read}
use Rattle.stamps.specs.Held.{tail_with}
use mathlib.Core.Bool.{false}
use Rattle.stamps.proofs.stamp.with_sign.Goals as goal

size_is : (n : ℕ) → n ≤ 362340 → At (pos 0) (pos 362340) (pos n) (to_z w32 n)
size_is n h = cast w32 n tt h

-- behind `-`
pub returns-then-minus : goal.returns-then-minus
unfolding tail_with
returns-then-minus c =
    let n = c.args.size in
    rw c.if-minus.true (λ i. record { offset = (read w32 tt (negated (size_is n c.requires))).is i; mark = eqb n 0 })

pub returns-else-minus : goal.returns-else-minus
unfolding tail_with
returns-else-minus c = rw c.if-minus.false (λ i. record { offset = (size_is _ c.requires).is i; mark = false })
