-- `merge::keys::put_row_if_waiting` meets its contract: no number, a number whose row does not wait, and one whose row does.
use mathlib.Core.Path.{◌≡◌, sym, ap, ◌∙◌}
use mathlib.Core.List.{List}
use Prim.Native.Nat.{ℕ, ◌-◌, ◌+◌}
use native.Mathlib.Omega.{arith}
use lib.ListN.{length, drop, get_or}
use Rattle.text.specs.Room.{put_at}
use Rattle.compact.specs.Held.{path_at}
use Rattle.merge.specs.Held.{key_at, row_with, row_for, stored_for}
use Rattle.merge.proofs.WaitingRows.{no_number, without_is, row_none, row_some, nothing_put}
use Rattle.merge.proofs.keys.put_row_if_waiting.Goals as goal

-- the row that waits
row_is : (taken first places second others waiting : List ℕ) (number : ℕ) {path key other : List ℕ} {n m stored : ℕ} → path ≡ path_at taken → key ≡ key_at (drop n first)
    → n ≡ get_or places (number - 1) 0 → other ≡ key_at (drop m second) → m ≡ get_or others (stored - 1) 0 → stored ≡ get_or waiting (number - 1) 0 → (number ≡ 0 → ⊥)
    → (stored ≡ 0 → ⊥) → row_with path key other ≡ row_for taken first places second others number (stored_for waiting number)
row_is taken first places second others waiting number p k n_is o m_is stored_is some waits =
    let key_is = k ∙ ap (λ (n : ℕ). key_at (drop n first)) n_is in
    let other_is = o ∙ ap (λ (n : ℕ). key_at (drop n second)) (m_is ∙ ap (λ (n : ℕ). get_or others (n - 1) 0) stored_is) in
    (λ i. row_with (p i) (key_is i) (other_is i)) ∙ row_some taken first places second others waiting number some (λ none. waits (stored_is ∙ none))

pub returns-then-number-eq0 : goal.returns-then-number-eq0
returns-then-number-eq0 c =
    let none = no_number c.args.taken.now c.args.first.now.list.now c.args.first.now.table.now.places c.args.second.now.list.now c.args.second.now.table.now.places c.args.waiting.now c.args.number c.if-number-eq0.true in
    let put = nothing_put _ c.args.report.now c.args.at none.0 in record {
      value = put.0;
      report_after = put.1;
      waiting_after = none.1;
    }

pub returns-then-other-eq0 : goal.returns-then-other-eq0
returns-then-other-eq0 c =
    let some = c.if-number-eq0.false in
    let none = row_none c.args.taken.now c.args.first.now.list.now c.args.first.now.table.now.places c.args.second.now.list.now c.args.second.now.table.now.places c.args.waiting.now c.args.number some (sym c.from-other.ensures ∙ c.if-other-eq0.true) in
    let put = nothing_put _ c.args.report.now c.args.at none in record {
      value = put.0;
      report_after = put.1;
      waiting_after = without_is c.args.taken.now c.args.first.now.list.now c.args.first.now.table.now.places c.args.second.now.list.now c.args.second.now.table.now.places c.args.waiting.now c.args.number some;
    }

pub put_row-requires : goal.put_row-requires
put_row-requires c =
    let row = row_is c.args.taken.now c.args.first.now.list.now c.args.first.now.table.now.places c.args.second.now.list.now c.args.second.now.table.now.places c.args.waiting.now c.args.number c.path_at.ensures c.key_at-key.ensures c.from.ensures
    c.key_at-other_key.ensures c.from-2.ensures c.from-other.ensures c.if-number-eq0.false c.if-other-eq0.false in
    omega (arith, ap length row, c.requires.row_in_bounds)

pub returns : goal.returns
returns c =
    let row = row_is c.args.taken.now c.args.first.now.list.now c.args.first.now.table.now.places c.args.second.now.list.now c.args.second.now.table.now.places c.args.waiting.now c.args.number c.path_at.ensures c.key_at-key.ensures c.from.ensures
    c.key_at-other_key.ensures c.from-2.ensures c.from-other.ensures c.if-number-eq0.false c.if-other-eq0.false in record {
      value = c.put_row.ensures.value ∙ ap (λ (r : List ℕ). c.args.at + length r) row;
      report_after = c.put_row.ensures.report_after ∙ ap (λ (r : List ℕ). put_at r c.args.at c.args.report.now) row;
      waiting_after = without_is c.args.taken.now c.args.first.now.list.now c.args.first.now.table.now.places c.args.second.now.list.now c.args.second.now.table.now.places c.args.waiting.now c.args.number c.if-number-eq0.false;
    }
