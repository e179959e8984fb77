-- `compact::table::Table::new` meets its contract.
use mathlib.Core.Path.{◌≡◌, refl}
use mathlib.Core.Bool.{true}
use mathlib.Core.List.{List, [], ◌∷◌}
use Prim.Native.Nat.{ℕ, zero, suc}
use borrow.Author.Tests.{eqb-true}
use lib.Dec.{eqb}
use lib.ListN.{get_or, replicate}
use Rattle.stamps.specs.Lines.{every}
use Rattle.text.proofs.Lists.{both}
use Rattle.compact.proofs.table.Table.new.Goals as goal

zeros : (r : List ℕ) → every (λ n. eqb n 0) r ≡ true → (b : ℕ) → get_or r b 0 ≡ 0
unfolding every
zeros [] e b = refl
zeros (n ∷ r) e zero = eqb-true n 0 (both (eqb n 0) (every (λ n. eqb n 0) r) e).0
zeros (n ∷ r) e (suc b) = zeros r (both (eqb n 0) (every (λ n. eqb n 0) r) e).1 b

pub returns : goal.returns
unfolding every
returns c = zeros (replicate 2049 0) refl
