-- `merge::keys::other_of` meets its contract.
use mathlib.Core.Path.{◌≡◌, sym, ap, ◌∙◌}
use mathlib.Core.Bool.{Bool}
use mathlib.Core.List.{List}
use Prim.Native.Nat.{ℕ, ◌≤◌}
use native.Mathlib.Omega.{arith}
use lib.ListN.{length, drop}
use Rattle.text.specs.Bytes.{same}
use Rattle.relative.specs.Relative.{max_pairs}
use Rattle.compact.specs.Held.{path_at, found_number, IsTable}
use Rattle.merge.specs.Held.{key_at}
use Rattle.merge.proofs.LastKeys.{number-le}
use Rattle.merge.proofs.WaitingRows.{other_none, other_same, other_differs}
use Rattle.merge.proofs.keys.other_of.Goals as goal

-- the number that is found for the path
number : (s second heads links others : List ℕ) {n : ℕ} {path : List ℕ} → n ≡ found_number second heads links others path → path ≡ path_at s
    → n ≡ found_number second heads links others (path_at s)
number s second heads links others found path_is = found ∙ ap (found_number second heads links others) path_is

-- it is that of a kept line
within : (second heads links others : List ℕ) (count : ℕ) → IsTable max_pairs second heads links others count → (path : List ℕ) {n : ℕ} → n ≡ found_number second heads links others path
    → n ≤ length others
within second heads links others count table path found = omega (arith, found, number-le max_pairs second heads links others count table path, table.few)

-- whether the keys are the same
keys : {own other a b : List ℕ} {r t : Bool} → r ≡ same own other → own ≡ a → other ≡ b → r ≡ t → same a b ≡ t
keys e own_is other_is tested = sym (e ∙ (λ i. same (own_is i) (other_is i))) ∙ tested

-- the key of the line at the place that is stored
key_from : (list : List ℕ) {key : List ℕ} {n m : ℕ} → key ≡ key_at (drop n list) → n ≡ m → key ≡ key_at (drop m list)
key_from list e n_is = e ∙ ap (λ (n : ℕ). key_at (drop n list)) n_is

pub returns-then-n-eq0 : goal.returns-then-n-eq0
returns-then-n-eq0 c =
    record {
      value = other_none _ _ _ _ _ _ (number c.args.s.now c.args.second.now.list.now c.args.second.now.table.now.heads c.args.second.now.table.now.links c.args.second.now.table.now.places c.find-n.ensures c.path_at.ensures) c.if-n-eq0.true;
      upper_bound = omega arith;
    }

pub offset_bounds-second-n : goal.offset_bounds-second-n
offset_bounds-second-n c =
    record { fits = omega (arith, within c.args.second.now.list.now c.args.second.now.table.now.heads c.args.second.now.table.now.links c.args.second.now.table.now.places _ c.args.second.now.is_table c.path_at.result.now c.find-n.ensures, c.args.second.now.is_table.place_places) }

pub bounds-second-n : goal.bounds-second-n
bounds-second-n c =
    omega (arith, within c.args.second.now.list.now c.args.second.now.table.now.heads c.args.second.now.table.now.links c.args.second.now.table.now.places _ c.args.second.now.is_table c.path_at.result.now c.find-n.ensures, c.args.second.now.is_table.place_places, c.if-n-eq0.false)

pub returns-then-same : goal.returns-then-same
returns-then-same c =
    record {
      value =
          other_same _ _ _ _ _ _ (number c.args.s.now c.args.second.now.list.now c.args.second.now.table.now.heads c.args.second.now.table.now.links c.args.second.now.table.now.places c.find-n.ensures c.path_at.ensures) c.if-n-eq0.false
          (keys c.same.ensures c.key_at.ensures (key_from c.args.second.now.list.now c.key_at-other_key.ensures c.from.ensures) c.if-same.true);
      upper_bound = omega arith;
    }

pub returns-else-same : goal.returns-else-same
returns-else-same c =
    record {
      value =
          other_differs _ _ _ _ _ _ (number c.args.s.now c.args.second.now.list.now c.args.second.now.table.now.heads c.args.second.now.table.now.links c.args.second.now.table.now.places c.find-n.ensures c.path_at.ensures) c.if-n-eq0.false
          (keys c.same.ensures c.key_at.ensures (key_from c.args.second.now.list.now c.key_at-other_key.ensures c.from.ensures) c.if-same.false);
      upper_bound = within c.args.second.now.list.now c.args.second.now.table.now.heads c.args.second.now.table.now.links c.args.second.now.table.now.places _ c.args.second.now.is_table c.path_at.result.now c.find-n.ensures;
    }
