-- How many bytes the report has. In order: the sum of a weight over some paths, which is the same for paths that are there equally often
-- (`total_of_times`); the rows of the report, each of which has 35 bytes more than its path; their length is the sum over the paths of the first list's
-- kept lines (`length-rows`).
-- Assumes nothing.
use mathlib.Core.Path.{◌≡◌, refl, sym, ap, ◌∙◌}
use mathlib.Core.Bool.{true, cond, not, ◌&&◌}
use mathlib.Core.List.{List, [], ◌∷◌, ◌++◌}
use Prim.Native.Nat.{ℕ, suc, ◌+◌, ◌<◌}
use native.Mathlib.Omega.{arith}
use borrow.Author.Tests.{ltb-true, ltb-false}
use lib.Dec.{ltb}
use lib.ListN.{length, length-append}
use Rattle.text.specs.Bytes.{same}
use Rattle.text.specs.Lines.{tab, newline}
use Rattle.text.proofs.Lists.{by_test, both}
use Rattle.stamps.specs.Lines.{line_of}
use Rattle.stamps.specs.Copies.{joined}
use Rattle.stamps.proofs.Printed.{same_self, eq_of_same}
use Rattle.compact.specs.Compact.{holds_path, kept}
use Rattle.compact.specs.Theorems.{paths_in, times_in}
use Rattle.compact.proofs.Kept.{is_in-paths_in, paths_kept, different_is_each_once}
use Rattle.merge.specs.Merge.{merged_lines, path_in, last_key, is_differing, reported, row_of, rows_of}
use Rattle.merge.specs.Theorems.{are_hulls}
use Rattle.merge.proofs.Reported.{holds_of_differing, reported_exactly_once, length-last_key}

-- ---- the sum of a weight over some paths
unfoldable pub total : (List ℕ → ℕ) → List (List ℕ) → ℕ
total w [] = 0
total w (p ∷ ps) = w p + total w ps

-- these paths without the first that is p
unfoldable without : List ℕ → List (List ℕ) → List (List ℕ)
without p [] = []
without p (q ∷ qs) = cond (same q p) qs (q ∷ without p qs)

module _ (p : List ℕ) where
  -- a path that is taken out and put in front is there as often as before
  times_in_without : (r : List ℕ) (qs : List (List ℕ)) → 0 < times_in p qs → times_in r qs ≡ times_in r (p ∷ without p qs)
  unfolding times_in without
  times_in_without r [] h = absurd (omega arith)
  times_in_without r (q ∷ qs) h =
      by_test (same q p) (λ y. rw (y, eq_of_same q p y))
      (λ n.
      let below = times_in_without r qs (rw n at h) in
      by_test (same q r) (λ a. by_test (same p r) (λ b. rw (n, a, b) (ap suc (rw b at below))) (λ b. rw (n, a, b) (ap suc (rw b at below))))
      (λ a. rw (n, a) below))

  -- and weighs the same
  total_without : (w : List ℕ → ℕ) (qs : List (List ℕ)) → 0 < times_in p qs → total w qs ≡ w p + total w (without p qs)
  unfolding times_in without total
  total_without w [] h = absurd (omega arith)
  total_without w (q ∷ qs) h =
      by_test (same q p) (λ y. rw (y, eq_of_same q p y)) (λ n. rw n (omega (arith, total_without w qs (rw n at h))))

-- a path in front counts
times_in-self : (p : List ℕ) (ps : List (List ℕ)) → times_in p (p ∷ ps) ≡ suc (times_in p ps)
unfolding times_in
times_in-self p ps = rw (same_self p)

module _ (w : List ℕ → ℕ) where
  -- a path of weight 0 in front is none that has weight
  times_in-weighty : (p r : List ℕ) (ps : List (List ℕ)) → w p ≡ 0 → 0 < w r → times_in r (p ∷ ps) ≡ times_in r ps
  unfolding times_in
  times_in-weighty p r ps z h = by_test (same p r) (λ y. absurd (omega (arith, ap w (eq_of_same p r y)))) (λ n. rw n)

  -- if no path that has weight is there, the sum is 0
  total_of_none : (qs : List (List ℕ)) → ((p : List ℕ) → 0 < w p → 0 ≡ times_in p qs) → 0 ≡ total w qs
  unfolding total
  total_of_none [] f = refl
  total_of_none (q ∷ qs) f =
      by_test (ltb 0 (w q)) (λ y. absurd (omega (arith, f q (ltb-true 0 (w q) y), times_in-self q qs)))
      (λ n.
      let z : w q ≡ 0 = omega (arith, ltb-false 0 (w q) n) in
      omega (arith, total_of_none qs (λ p h. f p h ∙ times_in-weighty q p qs z h)))

  -- if every path that has weight is equally often in two lists, both weigh the same
  pub total_of_times : (ps qs : List (List ℕ)) → ((p : List ℕ) → 0 < w p → times_in p ps ≡ times_in p qs) → total w ps ≡ total w qs
  unfolding total times_in
  total_of_times [] qs f = total_of_none qs f
  total_of_times (p ∷ ps) qs f =
      by_test (ltb 0 (w p))
      (λ y.
      let some : 0 < times_in p qs = omega (arith, f p (ltb-true 0 (w p) y), times_in-self p ps) in
      omega (arith, total_without p w qs some, total_of_times ps (without p qs) (λ r h. times_in-tail p r ps (without p qs) (f r h ∙ times_in_without p r qs some))))
      (λ n.
      let z : w p ≡ 0 = omega (arith, ltb-false 0 (w p) n) in
      omega (arith, total_of_times ps qs (λ r h. sym (times_in-weighty p r ps z h) ∙ f r h)))
    where
      times_in-tail : (p r : List ℕ) (ps qs : List (List ℕ)) → times_in r (p ∷ ps) ≡ times_in r (p ∷ qs) → times_in r ps ≡ times_in r qs
      times_in-tail p r ps qs e = by_test (same p r) (λ y. omega (arith, rw y at e)) (λ n. rw n at e)

-- ---- how often a path is among those of the kept lines
module _ (bound : ℕ) (p : List ℕ) where
  -- once, if a line has it
  times_in-kept : (ls : List (List ℕ)) → times_in p (paths_in bound (kept bound ls)) ≡ cond (holds_path bound p ls) 1 0
  times_in-kept ls = ap (times_in p) (paths_kept bound ls) ∙ different_is_each_once p (paths_in bound ls) ∙ rw (is_in-paths_in bound p ls)

-- ---- the rows of the report
-- the bytes of a path's row, with its newline; none if its keys are the same
unfoldable pub weight : ℕ → List (List ℕ) → List (List ℕ) → List ℕ → ℕ
weight bound ls ms p = cond (is_differing bound ls ms p) (length p + 35) 0

module _ (bound : ℕ) (ls ms : List (List ℕ)) where
  -- a path, two tabs and two keys
  length-row_of : (p : List ℕ) → is_differing bound ls ms p ≡ true → length (row_of bound ls ms p) ≡ length p + 34
  unfolding row_of
  length-row_of p d =
      let h = holds_of_differing bound ls ms p d in
      let a = last_key bound p ls in
      let b = last_key bound p ms in
      omega (arith, length-append (p ++ tab ∷ a) (tab ∷ b), length-append p (tab ∷ a), length-last_key bound p ls h.0, length-last_key bound p ms h.1)

  -- the rows of the paths that are reported weigh what these paths weigh
  length-rows_reported : (above ks : List (List ℕ))
      → length (joined (rows_of bound ls ms (reported bound ls ms above ks))) ≡ total (weight bound ls ms) (reported bound ls ms above ks)
  unfolding rows_of joined reported total weight
  length-rows_reported above [] = refl
  length-rows_reported above (k ∷ ks) =
      let p = path_in k (line_of bound k) in
      let below = length-rows_reported (k ∷ above) ks in
      by_test (is_differing bound ls ms p && not (holds_path bound p above))
      (λ y.
      let d = (both (is_differing bound ls ms p) (not (holds_path bound p above)) y).0 in
      rw (y, d) (omega (arith, length-append (row_of bound ls ms p) (newline ∷ joined (rows_of bound ls ms (reported bound ls ms (k ∷ above) ks))), length-row_of p d, below)))
      (λ n. rw n below)

  -- the length of the report is the sum over the paths of the kept lines of the first list
  pub length-rows : are_hulls bound ls ≡ true → are_hulls bound ms ≡ true
      → length (joined (rows_of bound ls ms (reported bound ls ms [] (merged_lines bound ls ms)))) ≡ total (weight bound ls ms) (paths_in bound (kept bound ls))
  unfolding weight
  length-rows a b =
      let ps = reported bound ls ms [] (merged_lines bound ls ms) in
      length-rows_reported [] (merged_lines bound ls ms) ∙ total_of_times (weight bound ls ms) ps (paths_in bound (kept bound ls)) each
    where
      differing : (p : List ℕ) → 0 < weight bound ls ms p → is_differing bound ls ms p ≡ true
      differing p h = by_test (is_differing bound ls ms p) (λ y. y) (λ n. absurd (omega (arith, rw n at h)))

      each : (p : List ℕ) → 0 < weight bound ls ms p → times_in p (reported bound ls ms [] (merged_lines bound ls ms)) ≡ times_in p (paths_in bound (kept bound ls))
      each p h =
          let d = differing p h in
          reported_exactly_once bound ls ms a b p ∙ rw d (sym (times_in-kept bound p ls ∙ rw (holds_of_differing bound ls ms p d).0))
