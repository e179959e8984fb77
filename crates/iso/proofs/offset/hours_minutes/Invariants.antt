use mathlib.Core.Path.{◌≡◌}
use mathlib.Core.List.{◌++◌}
use Prim.Native.Nat.{◌≤◌}
use lib.ListN.{length, take, drop}
use Rattle.iso.specs.Parts.{without}
use Rattle.iso.proofs.offset.hours_minutes.Given as goal

abbrev pub invariant-loop-b : goal.invariant-loop-b
invariant-loop-b l = (length l.f ≡ 4) × (l.n ≤ 4) × (without 58 l.s ≡ take l.n l.f ++ without 58 (drop l.b-index l.s))
