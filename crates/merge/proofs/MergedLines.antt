-- The merged lines of two lists. In order: three tests in another order; shuffles with no lines; merging with no lines; the merged lines are those of both lists, each list in its
-- order (`merged_is_a_shuffle`), as many lines and as many bytes as both have; they are `hull` lines, or good ones, exactly if those of both lists are,
-- and have the paths of both.
-- Assumes nothing.
use mathlib.Core.Path.{◌≡◌, refl, sym, ap, ◌∙◌}
use mathlib.Core.Bool.{Bool, true, false, ◌&&◌, ◌||◌, and-true, or-false}
use mathlib.Core.Logic.{inl, inr}
use mathlib.Core.List.{List, [], ◌∷◌}
use Prim.Native.Nat.{ℕ, ◌+◌}
use native.Mathlib.Omega.{arith}
use lib.ListN.{length}
use Rattle.text.specs.Lines.{taken_by}
use Rattle.text.proofs.Lists.{by_test}
use Rattle.stamps.specs.Lines.{line_of, is_good}
use Rattle.stamps.specs.Book.{judged}
use Rattle.stamps.specs.Theorems.{are_good, is_hull_line}
use Rattle.compact.specs.Compact.{has_path, holds_path}
use Rattle.merge.specs.Merge.{seconds_in, is_in_order, merged_lines}
use Rattle.merge.specs.Theorems.{Shuffle, are_hulls}

-- ---- three tests in another order
or_assoc : (a b c : Bool) → (a || (b || c)) ≡ ((a || b) || c)
or_assoc true b c = refl
or_assoc false b c = refl

or_swap : (a b c : Bool) → (a || (b || c)) ≡ (b || (a || c))
or_swap true true c = refl
or_swap true false c = refl
or_swap false b c = refl

and_assoc : (a b c : Bool) → (a && (b && c)) ≡ ((a && b) && c)
and_assoc true b c = refl
and_assoc false b c = refl

and-swap : (a b c : Bool) → (a && (b && c)) ≡ (b && (a && c))
and-swap true b c = refl
and-swap false true c = refl
and-swap false false c = refl

-- ---- lines are a shuffle of themselves and no lines
shuffle-nil-left : (ms : List (List ℕ)) → Shuffle [] ms ms
unfolding Shuffle
shuffle-nil-left [] = (refl, refl)
shuffle-nil-left (m ∷ ms) = inr (ms, refl, shuffle-nil-left ms)

shuffle-nil-right : (ls : List (List ℕ)) → Shuffle ls [] ls
unfolding Shuffle
shuffle-nil-right [] = (refl, refl)
shuffle-nil-right (l ∷ ls) = inl (ls, refl, shuffle-nil-right ls)

module _ (bound : ℕ) where
  -- whether the first of two lines is next
  abbrev is_first_next : List ℕ → List ℕ → Bool
  is_first_next l m = is_in_order (seconds_in (line_of bound l)) (seconds_in (line_of bound m))

  -- ---- merging with no lines changes nothing
  pub merged_lines-nil-left : (ms : List (List ℕ)) → merged_lines bound [] ms ≡ ms
  unfolding merged_lines
  merged_lines-nil-left ms = refl

  pub merged_lines-nil-right : (ls : List (List ℕ)) → merged_lines bound ls [] ≡ ls
  unfolding merged_lines
  merged_lines-nil-right [] = refl
  merged_lines-nil-right (l ∷ ls) = refl

  -- ---- the lines of both lists
  -- no line is lost, none is added, and the lines of each list keep their order
  pub merged_is_a_shuffle : (ls ms : List (List ℕ)) → Shuffle ls ms (merged_lines bound ls ms)
  unfolding merged_lines Shuffle
  merged_is_a_shuffle [] ms = shuffle-nil-left ms
  merged_is_a_shuffle (l ∷ ls) [] = shuffle-nil-right (l ∷ ls)
  merged_is_a_shuffle (l ∷ ls) (m ∷ ms) =
      by_test (is_first_next l m) (λ e. rw e (inl (ls, refl, merged_is_a_shuffle ls (m ∷ ms)))) (λ e. rw e (inr (ms, refl, merged_is_a_shuffle (l ∷ ls) ms)))

  -- they are as many as both have
  pub length-merged_lines : (ls ms : List (List ℕ)) → length (merged_lines bound ls ms) ≡ length ls + length ms
  unfolding merged_lines
  length-merged_lines [] ms = omega arith
  length-merged_lines (l ∷ ls) [] = omega arith
  length-merged_lines (l ∷ ls) (m ∷ ms) =
      by_test (is_first_next l m) (λ e. rw e (omega (arith, length-merged_lines ls (m ∷ ms)))) (λ e. rw e (omega (arith, length-merged_lines (l ∷ ls) ms)))

  -- and have as many bytes
  pub taken_by-merged_lines : (ls ms : List (List ℕ)) → taken_by (merged_lines bound ls ms) ≡ taken_by ls + taken_by ms
  unfolding merged_lines taken_by
  taken_by-merged_lines [] ms = omega arith
  taken_by-merged_lines (l ∷ ls) [] = omega arith
  taken_by-merged_lines (l ∷ ls) (m ∷ ms) =
      by_test (is_first_next l m) (λ e. rw e (omega (arith, taken_by-merged_lines ls (m ∷ ms)))) (λ e. rw e (omega (arith, taken_by-merged_lines (l ∷ ls) ms)))

  -- ---- what all of the merged lines are, and what one of them has
  -- all are `hull` lines exactly if those of both lists are
  pub are_hulls-merged_lines : (ls ms : List (List ℕ)) → are_hulls bound (merged_lines bound ls ms) ≡ (are_hulls bound ls && are_hulls bound ms)
  unfolding merged_lines are_hulls
  are_hulls-merged_lines [] ms = refl
  are_hulls-merged_lines (l ∷ ls) [] = sym (and-true _)
  are_hulls-merged_lines (l ∷ ls) (m ∷ ms) =
      let x = is_hull_line (line_of bound l) in
      let y = is_hull_line (line_of bound m) in
      by_test (is_first_next l m)
      (λ e. rw e (ap (λ (t : Bool). x && t) (are_hulls-merged_lines ls (m ∷ ms)) ∙ and_assoc x (are_hulls bound ls) (y && are_hulls bound ms)))
      (λ e. rw e (ap (λ (t : Bool). y && t) (are_hulls-merged_lines (l ∷ ls) ms) ∙ and-swap y (x && are_hulls bound ls) (are_hulls bound ms)))

  -- all are good exactly if those of both lists are
  pub are_good-merged_lines : (ls ms : List (List ℕ)) → are_good (judged bound (merged_lines bound ls ms)) ≡ (are_good (judged bound ls) && are_good (judged bound ms))
  unfolding merged_lines judged are_good
  are_good-merged_lines [] ms = refl
  are_good-merged_lines (l ∷ ls) [] = sym (and-true _)
  are_good-merged_lines (l ∷ ls) (m ∷ ms) =
      let x = is_good (line_of bound l) in
      let y = is_good (line_of bound m) in
      by_test (is_first_next l m)
      (λ e. rw e (ap (λ (t : Bool). x && t) (are_good-merged_lines ls (m ∷ ms)) ∙ and_assoc x (are_good (judged bound ls)) (y && are_good (judged bound ms))))
      (λ e. rw e (ap (λ (t : Bool). y && t) (are_good-merged_lines (l ∷ ls) ms) ∙ and-swap y (x && are_good (judged bound ls)) (are_good (judged bound ms))))

  -- one has a path exactly if one of either list has it
  pub holds_path-merged_lines : (p : List ℕ) (ls ms : List (List ℕ)) → holds_path bound p (merged_lines bound ls ms) ≡ (holds_path bound p ls || holds_path bound p ms)
  unfolding merged_lines holds_path
  holds_path-merged_lines p [] ms = refl
  holds_path-merged_lines p (l ∷ ls) [] = sym (or-false _)
  holds_path-merged_lines p (l ∷ ls) (m ∷ ms) =
      let x = has_path p l (line_of bound l) in
      let y = has_path p m (line_of bound m) in
      by_test (is_first_next l m)
      (λ e. rw e (ap (λ (t : Bool). x || t) (holds_path-merged_lines p ls (m ∷ ms)) ∙ or_assoc x (holds_path bound p ls) (y || holds_path bound p ms)))
      (λ e. rw e (ap (λ (t : Bool). y || t) (holds_path-merged_lines p (l ∷ ls) ms) ∙ or_swap y (x || holds_path bound p ls) (holds_path bound p ms)))
