use mathlib.Core.Path.{◌≡◌}
use mathlib.Core.List.{List}
use Prim.Native.Nat.{ℕ, ◌≤◌}
use lib.ListN.{drop}
use Rattle.text.specs.Bytes.{is_digit}
use Rattle.text.specs.Places.{leading, past}
use Rattle.text.specs.Number.{read_from, fitted}
use Rattle.text.proofs.number.leading_number.Given as goal

-- the answer, read on from v at i
abbrev pub On : List ℕ → ℕ → ℕ → ℕ → ℕ → Type 0
On s from limit v i = fitted limit (read_from 0 (leading is_digit (drop from s))) ≡ fitted limit (read_from v (leading is_digit (drop i s)))

abbrev pub invariant-loop-i : goal.invariant-loop-i
invariant-loop-i l = (l.v ≤ l.limit) × (past is_digit l.s l.from ≡ past is_digit l.s l.i) × On l.s l.from l.limit l.v l.i
