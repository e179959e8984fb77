-- Two lists that the check finds good. In order: two checks and lengths; lines without a fault are `hull`
-- lines whose seconds never fall, and nothing is left behind them; both lists are good exactly if each is (`lists_good`, `good_of_lists`).
-- Assumes nothing.
use Rattle.std.specs.Prelude.{None, Option, Some, ℤ, Ok, Err, Result}
use mathlib.Core.Path.{◌≡◌, refl, ◌∙◌}
use mathlib.Core.Bool.{true, false≢true}
use mathlib.Core.List.{List, [], ◌∷◌, ◌++◌}
use Prim.Native.Nat.{ℕ, suc, ◌≤◌}
use borrow.Author.Tests.{leb-true, le-leb}
use lib.Dec.{leb}
use lib.ListN.{length}
use Rattle.text.specs.Lines.{ended_lines, left}
use Rattle.text.proofs.Lists.{by_test, both}
use Rattle.stamps.specs.Lines.{line_of}
use Rattle.stamps.specs.Book.{judged, lines_in, last_piece}
use Rattle.stamps.specs.Listing.{is_at_or_after}
use Rattle.stamps.specs.Theorems.{is_hull_line}
use Rattle.stamps.specs.declared.line.Line.{Line}
use Rattle.stamps.specs.declared.line.Line.TheVariants.{Hull, Since}
use Rattle.merge.specs.Lists.{max_list, length_fault, line_fault, lines_fault, or_else, lists_of}
use Rattle.merge.specs.Merge.{seconds_in, is_in_order}
use Rattle.merge.specs.Theorems.{are_hulls, is_sorted, IsList}
use Rattle.merge.specs.declared.lists.Machine.{Machine}
use Rattle.merge.specs.declared.lists.Machine.TheVariants.{First, Second}
use Rattle.merge.specs.declared.lists.ListError.{ListError}

-- ---- two checks and lengths
-- of two checks, one after the other, no fault is found only if neither finds one
or_else-good : (u v : Result (Unit {0}) ListError) → or_else u v ≡ Ok tt → (u ≡ Ok tt) × (v ≡ Ok tt)
or_else-good (Ok tt) v e = (refl, e)
or_else-good (Err x) v e = cc

-- the fault that the first one finds, and what the second one says where the first finds none
pub or_else_refused : (u v : Result (Unit {0}) ListError) (x : ListError) → Err x ≡ u → Err x ≡ or_else u v
or_else_refused u v x e = rw (← e) refl

pub or_else_passed : (u v w : Result (Unit {0}) ListError) → Ok tt ≡ u → w ≡ v → w ≡ or_else u v
or_else_passed u v w e f = rw (← e) f

-- a list without a fault in its length is not too long
short_of_good : (m : Machine) (list : List ℕ) → length_fault m list ≡ Ok tt → length list ≤ max_list
short_of_good m list e =
    by_test (leb (length list) max_list) (λ y. leb-true (length list) max_list y)
    (λ n. let f = rw n at e in cc)

module _ (bound : ℕ) (m : Machine) where
  -- ---- lines without a fault, below a line with these seconds
  -- the first line is a `hull` line in order, and the lines below it have no fault
  fine_line : (n : ℕ) (above : Option ℤ) (x : Option Line) (xs : List (Option Line)) → line_fault m n above (x ∷ xs) ≡ Ok tt
      → (is_hull_line x ≡ true) × (is_in_order above (seconds_in x) ≡ true) × (line_fault m (suc n) (seconds_in x) xs ≡ Ok tt)
  unfolding line_fault
  fine_line n above (Some (Hull h)) xs e =
      by_test (is_at_or_after above h.time.seconds) (λ y. (refl, y, rw y at e))
      (λ b. let f = rw b at e in cc)
  fine_line n above (Some (Since x)) xs e = cc
  fine_line n above None xs e = cc

  -- a `hull` line in order is passed over
  line_fault-hull : (n : ℕ) (above : Option ℤ) (x : Option Line) (xs : List (Option Line)) → is_hull_line x ≡ true → is_in_order above (seconds_in x) ≡ true
      → line_fault m n above (x ∷ xs) ≡ line_fault m (suc n) (seconds_in x) xs
  unfolding line_fault
  line_fault-hull n above (Some (Hull h)) xs g o = rw o
  line_fault-hull n above (Some (Since x)) xs g o = absurd (false≢true g)
  line_fault-hull n above None xs g o = absurd (false≢true g)

  -- what is left behind the lines is a bad line, unless it is empty
  fine-nil : (n : ℕ) (above : Option ℤ) (s : List ℕ) → line_fault m n above (last_piece s) ≡ Ok tt → s ≡ []
  unfolding line_fault
  fine-nil n above [] e = refl
  fine-nil n above (b ∷ s) e = cc

  -- lines without a fault are `hull` lines in order, with nothing behind them
  fine_lines : (n : ℕ) (above : Option ℤ) (ls : List (List ℕ)) (s : List ℕ) → line_fault m n above (judged bound ls ++ last_piece s) ≡ Ok tt
      → (are_hulls bound ls ≡ true) × (is_sorted bound above ls ≡ true) × (s ≡ [])
  unfolding judged are_hulls is_sorted
  fine_lines n above [] s e = (refl, refl, fine-nil n above s e)
  fine_lines n above (l ∷ ls) s e =
      let x = line_of bound l in
      let p = fine_line n above x (judged bound ls ++ last_piece s) e in
      let q = fine_lines (suc n) (seconds_in x) ls s p.2 in
      (rw p.0 q.0, rw p.1 q.1, q.2)

  -- and back
  line_fault_of_sorted : (n : ℕ) (above : Option ℤ) (ls : List (List ℕ)) → are_hulls bound ls ≡ true → is_sorted bound above ls ≡ true
      → line_fault m n above (judged bound ls ++ []) ≡ Ok tt
  unfolding line_fault judged are_hulls is_sorted
  line_fault_of_sorted n above [] h o = refl
  line_fault_of_sorted n above (l ∷ ls) h o =
      let x = line_of bound l in
      let p = both (is_hull_line x) (are_hulls bound ls) h in
      let q = both (is_in_order above (seconds_in x)) (is_sorted bound (seconds_in x) ls) o in
      line_fault-hull n above x (judged bound ls ++ []) p.0 q.0 ∙ line_fault_of_sorted (suc n) (seconds_in x) ls p.1 q.1

  -- ---- a list
  -- a list without a fault is a good list
  list_good : (list : List ℕ) → length_fault m list ≡ Ok tt → lines_fault bound m list ≡ Ok tt → IsList bound list
  unfolding lines_fault lines_in
  list_good list short e =
      let p = fine_lines 1 None (ended_lines list) (left list) e in
      record { short = short_of_good m list short; whole = p.2; hulls = p.0; sorted = p.1 }

  -- a good list has no fault
  length_fault_of_list : (list : List ℕ) → IsList bound list → length_fault m list ≡ Ok tt
  length_fault_of_list list i = rw (le-leb (length list) max_list i.short)

  lines_fault_of_list : (list : List ℕ) → IsList bound list → lines_fault bound m list ≡ Ok tt
  unfolding lines_fault lines_in
  lines_fault_of_list list i = rw i.whole (line_fault_of_sorted 1 None (ended_lines list) i.hulls i.sorted)

-- ---- both lists
module _ (bound : ℕ) (first second : List ℕ) where
  -- if the check of both finds no fault, both are good lists
  pub lists_good : lists_of bound first second ≡ Ok tt → IsList bound first × IsList bound second
  unfolding lists_of
  lists_good e =
      let a = or_else-good (length_fault First first) _ e in
      let b = or_else-good (length_fault Second second) _ a.1 in
      let c = or_else-good (lines_fault bound First first) (lines_fault bound Second second) b.1 in
      (list_good bound First first a.0 c.0, list_good bound Second second b.0 c.1)

  -- and back
  pub good_of_lists : IsList bound first → IsList bound second → lists_of bound first second ≡ Ok tt
  unfolding lists_of
  good_of_lists i j =
      rw (length_fault_of_list bound First first i, length_fault_of_list bound Second second j, lines_fault_of_list bound First first i, lines_fault_of_list bound Second second j)
