-- `merge::keys::find_rows` meets its contract. The invariant: the first k kept lines are done, and their rows have `length` bytes.
use mathlib.Core.Path.{◌≡◌, refl, ap, ◌∙◌}
use mathlib.Core.Bool.{cond}
use mathlib.Core.List.{List}
use Prim.Native.Nat.{ℕ, ◌+◌}
use native.Mathlib.Omega.{arith}
use lib.Dec.{eqb}
use lib.ListN.{length as size, drop}
use Rattle.relative.specs.Relative.{max_pairs}
use Rattle.compact.specs.Held.{path_at}
use Rattle.merge.proofs.WaitingRows.{finding_start, finding_end, row_small, finding_again}
use Rattle.merge.proofs.keys.find_rows.Goals as goal

-- the length of the row of the line at k
row : (other : ℕ) (text : List ℕ) {path : List ℕ} {n : ℕ} → n ≡ cond (eqb other 0) 0 (size path + 35) → path ≡ path_at text → n ≡ cond (eqb other 0) 0 (size (path_at text) + 35)
row other text e path_is = e ∙ ap (λ (p : List ℕ). cond (eqb other 0) 0 (size p + 35)) path_is

-- the line at the place that is stored
line_from : (list line : List ℕ) {n m : ℕ} → line ≡ drop n list → n ≡ m → line ≡ drop m list
line_from list line e n_is = e ∙ ap (λ (n : ℕ). drop n list) n_is

pub loop-k-init : goal.loop-k-init
loop-k-init c = finding_start max_pairs _ _ c.args.first.now.is_list c.args.second.now.is_list _ _ _ _ c.requires

pub overflow_add-length : goal.overflow_add-length
overflow_add-length c =
    let f = c.args.first.now in
    let s = c.args.second.now in
    let inv = c.loop-k.invariant in
    let small = row_small max_pairs _ _ f.is_list s.is_list f.is_table.lines_are inv _ _ _ s.is_table c.loop-k-test.true _ (line_from _ _ c.from-line.ensures c.from.ensures) _ c.other_of-other.ensures.value _
    (row c.other_of-other.result c.from-line.result.now c.row_length-length.ensures c.path_at.ensures) in
    record { fits = omega (arith, small, inv.small, inv.few, f.is_table.few, f.is_table.place_places) }

pub loop-k-preserved : goal.loop-k-preserved
loop-k-preserved c =
    let f = c.args.first.now in
    let s = c.args.second.now in
    finding_again max_pairs _ _ f.is_list s.is_list f.is_table.lines_are c.loop-k.invariant _ _ _ s.is_table c.loop-k-test.true _ (line_from _ _ c.from-line.ensures c.from.ensures) _ c.other_of-other.ensures.value _
    (row c.other_of-other.result c.from-line.result.now c.row_length-length.ensures c.path_at.ensures) _ refl

pub returns : goal.returns
returns c =
    let f = c.args.first.now in
    let all = finding_end max_pairs _ _ f.is_list c.args.second.now.is_list f.is_table.lines_are c.loop-k.invariant c.loop-k-test.false in record { value = all.0; all_wait = all.1 }
