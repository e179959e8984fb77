use mathlib.Core.Path.{◌≡◌}
use Prim.Native.Nat.{◌≤◌}
use Rattle.compact.specs.Held.{number_in}
use Rattle.compact.proofs.table.find_in_chain.Given as goal

abbrev pub invariant-loop-k : goal.invariant-loop-k
invariant-loop-k l = (l.k ≤ l.first) × (number_in l.book l.links l.places l.path l.first l.first ≡ number_in l.book l.links l.places l.path l.k l.k)

abbrev pub decreases-loop-k : goal.decreases-loop-k
decreases-loop-k l = l.k
