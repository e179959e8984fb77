-- `strip::days_of` meets its contract. The invariant: the places up to the next one have their numbers.
use native.Mathlib.Nat.{not-suc-le-zero}
use Rattle.std.proofs.Common.{add-one}
use native.Mathlib.Omega.{arith}
use Rattle.strip.proofs.Filling.{Filled-zeros, Filled-set, along_of_Filled}
use Rattle.strip.proofs.days_of.Goals as goal

pub loop-place-init : goal.loop-place-init
loop-place-init c = Filled-zeros _ 42 0 (omega arith) (λ i h. absurd (not-suc-le-zero h))

pub loop-place-preserved : goal.loop-place-preserved
loop-place-preserved c =
    rw add-one (Filled-set _ 42 c.loop-place.place _ _ (omega arith) c.number_at.ensures c.loop-place.invariant)

-- no place is left
pub returns : goal.returns
returns c = along_of_Filled _ 42 c.loop-place.place _ c.loop-place.invariant (λ i h l. absurd (omega arith))
