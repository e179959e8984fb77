-- The lines that are kept. In order: one line, and the lines below it; kept lines are lines of the book, in its order (`kept_lines_in_order`); a path is
-- kept exactly if it was there (`same_paths`); the paths of the kept lines are the different paths of the book (`paths_kept`), as many as there are
-- kept `hull` lines (`as_many_hulls_as_paths`), and each once (`different_is_each_once`).
-- Assumes nothing.
use Rattle.std.specs.Prelude.{None, Option, Some}
use mathlib.Core.Path.{◌≡◌, refl, sym, ap, ◌∙◌}
use mathlib.Core.Bool.{Bool, true, false, cond, not, ◌||◌, false≢true}
use mathlib.Core.List.{List, [], ◌∷◌, ◌++◌}
use Prim.Native.Nat.{ℕ, suc}
use lib.ListN.{length}
use Rattle.text.specs.Bytes.{same}
use Rattle.text.specs.Places.{part}
use Rattle.text.proofs.Lists.{by_test}
use Rattle.stamps.specs.Lines.{line_of}
use Rattle.stamps.specs.Theorems.{is_hull_line, hulls_of}
use Rattle.stamps.specs.Held.{picked}
use Rattle.stamps.specs.declared.line.Line.{Line}
use Rattle.stamps.specs.declared.line.Line.TheVariants.{Hull, Since}
use Rattle.stamps.proofs.Printed.{eq_of_same}
use Rattle.compact.specs.Compact.{has_path, holds_path, is_kept, kept}
use Rattle.compact.specs.Theorems.{kept_marks, with_path, paths_in, is_in, times_in, different}

-- a line, and the lines below it
pub kept_dropped : (bound : ℕ) (l : List ℕ) (ls : List (List ℕ)) → is_kept bound l (line_of bound l) ls ≡ false → kept bound (l ∷ ls) ≡ kept bound ls
unfolding kept
kept_dropped bound l ls e = rw e

pub kept_taken : (bound : ℕ) (l : List ℕ) (ls : List (List ℕ)) → is_kept bound l (line_of bound l) ls ≡ true → kept bound (l ∷ ls) ≡ l ∷ kept bound ls
unfolding kept
kept_taken bound l ls e = rw e

module _ (bound : ℕ) where
  -- ---- each line has a mark, and the kept lines are those whose mark is 1, in their order
  pub kept_lines_in_order : (ls : List (List ℕ)) → kept bound ls ≡ picked (kept_marks bound ls) ls
  unfolding kept kept_marks picked
  kept_lines_in_order [] = refl
  kept_lines_in_order (l ∷ ls) =
      by_test (is_kept bound l (line_of bound l) ls) (λ y. rw (y, kept_lines_in_order ls)) (λ n. rw (n, kept_lines_in_order ls))

  -- ---- paths
  pub holds_path-append : (p : List ℕ) (a b : List (List ℕ)) → holds_path bound p (a ++ b) ≡ (holds_path bound p a || holds_path bound p b)
  unfolding holds_path
  holds_path-append p [] b = refl
  holds_path-append p (l ∷ a) b = by_test (has_path p l (line_of bound l)) (λ y. rw y) (λ n. rw (n, holds_path-append p a b))

  -- a line that goes has a path that a later line has too
  path_of_gone : (p l : List ℕ) (x : Option Line) (ls : List (List ℕ)) → is_kept bound l x ls ≡ false → has_path p l x ≡ true → holds_path bound p ls ≡ true
  path_of_gone p l (Some (Hull h)) ls g e =
      ap (λ (q : List ℕ). holds_path bound q ls) (sym (eq_of_same (part l h.path) p e))
      ∙ by_test (holds_path bound (part l h.path) ls) (λ y. y) (λ n. absurd (false≢true (sym g ∙ ap not n)))
  path_of_gone p l (Some (Since x)) ls g e = absurd (false≢true e)
  path_of_gone p l None ls g e = absurd (false≢true e)

  or_of_gone : (p l : List ℕ) (ls : List (List ℕ)) → is_kept bound l (line_of bound l) ls ≡ false → holds_path bound p (l ∷ ls) ≡ holds_path bound p ls
  unfolding holds_path
  or_of_gone p l ls g =
      by_test (has_path p l (line_of bound l)) (λ y. rw y (sym (path_of_gone p l (line_of bound l) ls g y))) (λ n. rw n)

  pub same_paths : (p : List ℕ) (ls : List (List ℕ)) → holds_path bound p (kept bound ls) ≡ holds_path bound p ls
  unfolding kept holds_path
  same_paths p [] = refl
  same_paths p (l ∷ ls) =
      by_test (is_kept bound l (line_of bound l) ls) (λ y. rw (y, same_paths p ls))
      (λ n. ap (holds_path bound p) (kept_dropped bound l ls n) ∙ same_paths p ls ∙ sym (or_of_gone p l ls n))

  -- ---- different paths
  pub is_in-with_path : (p l : List ℕ) (ps ls : List (List ℕ)) → is_in p ps ≡ holds_path bound p ls → (x : Option Line) → is_in p (with_path l x ps) ≡ (has_path p l x || holds_path bound p ls)
  unfolding is_in
  is_in-with_path p l ps ls e (Some (Hull h)) = ap (λ (t : Bool). same (part l h.path) p || t) e
  is_in-with_path p l ps ls e (Some (Since x)) = e
  is_in-with_path p l ps ls e None = e

  pub is_in-paths_in : (p : List ℕ) (ls : List (List ℕ)) → is_in p (paths_in bound ls) ≡ holds_path bound p ls
  unfolding is_in paths_in holds_path
  is_in-paths_in p [] = refl
  is_in-paths_in p (l ∷ ls) = is_in-with_path p l (paths_in bound ls) ls (is_in-paths_in p ls) (line_of bound l)

  -- the paths of the kept lines are the different paths of the book
  paths_of_line : (l : List ℕ) (ls : List (List ℕ)) → paths_in bound (kept bound ls) ≡ different (paths_in bound ls) → (x : Option Line) → line_of bound l ≡ x
      → paths_in bound (kept bound (l ∷ ls)) ≡ different (with_path l x (paths_in bound ls))
  unfolding paths_in different
  paths_of_line l ls below (Some (Hull h)) e =
      let p = part l h.path in
      let keeps : is_kept bound l (line_of bound l) ls ≡ not (holds_path bound p ls) = ap (λ (x : Option Line). is_kept bound l x ls) e in
      by_test (holds_path bound p ls)
      (λ y. rw (is_in-paths_in p ls, y) (ap (paths_in bound) (kept_dropped bound l ls (keeps ∙ ap not y)) ∙ below))
      (λ n. rw (is_in-paths_in p ls, n) (ap (paths_in bound) (kept_taken bound l ls (keeps ∙ ap not n)) ∙ (λ i. with_path l (e i) (below i))))
  paths_of_line l ls below (Some (Since x)) e =
      ap (paths_in bound) (kept_taken bound l ls (ap (λ (x : Option Line). is_kept bound l x ls) e)) ∙ (λ i. with_path l (e i) (below i))
  paths_of_line l ls below None e =
      ap (paths_in bound) (kept_taken bound l ls (ap (λ (x : Option Line). is_kept bound l x ls) e)) ∙ (λ i. with_path l (e i) (below i))

  pub paths_kept : (ls : List (List ℕ)) → paths_in bound (kept bound ls) ≡ different (paths_in bound ls)
  unfolding paths_in different kept
  paths_kept [] = refl
  paths_kept (l ∷ ls) = paths_of_line l ls (paths_kept ls) (line_of bound l) refl

  -- each `hull` line has one path
  length-with_path : (l : List ℕ) (ps ls : List (List ℕ)) → length ps ≡ length ls → (x : Option Line) → length (with_path l x ps) ≡ length (cond (is_hull_line x) (l ∷ ls) ls)
  length-with_path l ps ls e (Some (Hull h)) = ap suc e
  length-with_path l ps ls e (Some (Since x)) = e
  length-with_path l ps ls e None = e

  length-paths_in : (ls : List (List ℕ)) → length (paths_in bound ls) ≡ length (hulls_of bound ls)
  unfolding paths_in hulls_of
  length-paths_in [] = refl
  length-paths_in (l ∷ ls) = length-with_path l (paths_in bound ls) (hulls_of bound ls) (length-paths_in ls) (line_of bound l)

  pub as_many_hulls_as_paths : (ls : List (List ℕ)) → length (hulls_of bound (kept bound ls)) ≡ length (different (paths_in bound ls))
  as_many_hulls_as_paths ls = sym (length-paths_in (kept bound ls)) ∙ ap length (paths_kept ls)

-- the different ones of some paths are each of them once, and no other
times_in_of_not_in : (p : List ℕ) (ps : List (List ℕ)) → is_in p ps ≡ false → times_in p ps ≡ 0
unfolding is_in times_in
times_in_of_not_in p [] e = refl
times_in_of_not_in p (q ∷ qs) e = by_test (same q p) (λ y. absurd (false≢true (sym (rw y at e)))) (λ n. rw n (times_in_of_not_in p qs (rw n at e)))

pub different_is_each_once : (p : List ℕ) (ps : List (List ℕ)) → times_in p (different ps) ≡ cond (is_in p ps) 1 0
unfolding different is_in times_in
different_is_each_once p [] = refl
different_is_each_once p (q ∷ qs) =
    by_test (is_in q qs)
    (λ y. rw y (different_is_each_once p qs ∙ by_test (same q p) (λ s. rw (s, ← eq_of_same q p s, y)) (λ n. rw n)))
    (λ y.
    by_test (same q p) (λ s. rw (y, s) (ap suc (different_is_each_once p qs ∙ rw (← eq_of_same q p s, y))))
    (λ n. rw (y, n) (different_is_each_once p qs)))
