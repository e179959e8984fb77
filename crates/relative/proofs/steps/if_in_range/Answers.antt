-- `relative::steps::if_in_range` meets its contract.
use Rattle.std.specs.Prelude.{Err, Ok}
use Rattle.std.specs.Bool.{then_some}
use mathlib.Core.Path.{◌≡◌, refl, sym}
use mathlib.Core.Bool.{Bool, true, false, cond}
use Prim.Native.Nat.{◌≤◌}
use Rattle.time.specs.Range.{seconds_in_range, since1970, time_of, MovedInRange}
use Rattle.time.specs.declared.range.Instant.{Instant}
use Rattle.time.specs.declared.Refusal.TheVariants.{Range}
use Rattle.time.proofs.Ranges.{range_of_seconds_in_range}
use Rattle.relative.specs.Held.{answer_of}
use Rattle.relative.specs.Steps.{landed}
use Rattle.relative.proofs.steps.if_in_range.Goals as goal

answer_of-then_some : (b : Bool) (i : Instant) → answer_of (then_some b i) ≡ cond b (Ok (time_of i)) (Err Range)
answer_of-then_some true i = refl
answer_of-then_some false i = refl

moved_then_some : (b : Bool) (i : Instant) → b ≡ seconds_in_range (since1970 i.seconds) → 1 ≤ i.offset → i.offset ≤ 187199 → MovedInRange (then_some b i)
moved_then_some true i e w h = let r = range_of_seconds_in_range i.seconds (sym e) in record { early = r.0; late = r.1; west = w; east = h }
moved_then_some false i e w h = tt

pub returns-clause-is : goal.returns-clause-is
unfolding landed
returns-clause-is c = rw (← c.in_range.ensures, c.then_some.ensures) (answer_of-then_some c.in_range.result _)

pub returns-clause-range : goal.returns-clause-range
returns-clause-range c = rw c.then_some.ensures (moved_then_some _ _ c.in_range.ensures c.requires.0 c.requires.1)
