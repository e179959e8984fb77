use mathlib.Core.Path.{◌≡◌}
use Prim.Native.Nat.{◌<◌}
use lib.ListN.{drop}
use Rattle.compact.specs.Held.{mixed}
use Rattle.compact.proofs.table.mix.Given as goal

abbrev pub invariant-loop-b : goal.invariant-loop-b
invariant-loop-b l = (l.h < 4294967296) × (mixed 0 l.path ≡ mixed l.h (drop l.b-index l.path))
