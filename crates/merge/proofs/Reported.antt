-- The paths that are reported. In order: the path of a `hull` line; a path is reported once if its keys differ, and else not at all
-- (`reported_exactly_once`); a key that is reported has 16 bytes; nothing is reported of a merge with an empty list (`report_with_empty_first`,
-- `report_with_empty_second`).
-- Assumes nothing.
use Rattle.std.specs.Prelude.{None, Option, Some}
use mathlib.Core.Path.{◌≡◌, refl, ap, ◌∙◌}
use mathlib.Core.Bool.{Bool, true, false, cond, not, ◌&&◌, false≢true, and-false}
use mathlib.Core.List.{List, [], ◌∷◌}
use Prim.Native.Nat.{ℕ, suc}
use lib.ListN.{length}
use Rattle.text.specs.Bytes.{same}
use Rattle.text.specs.Places.{part}
use Rattle.text.specs.Lines.{ended_lines}
use Rattle.text.proofs.Lists.{by_test, both}
use Rattle.stamps.specs.Lines.{line_of}
use Rattle.stamps.specs.Copies.{joined}
use Rattle.stamps.specs.Theorems.{is_hull_line}
use Rattle.stamps.specs.declared.line.Line.{Line}
use Rattle.stamps.specs.declared.line.Line.TheVariants.{Hull, Since}
use Rattle.stamps.proofs.Books.{ended_lines-nil}
use Rattle.stamps.proofs.HullLines.{parts_of_is_key}
use Rattle.stamps.proofs.Printed.{eq_of_same}
use Rattle.stamps.proofs.Writing.{good_hull}
use Rattle.stamps.proofs.WriteBack.{hull_written_back}
use Rattle.compact.specs.Compact.{has_path, holds_path}
use Rattle.compact.specs.Theorems.{times_in}
use Rattle.merge.specs.Merge.{merged_lines, path_in, key_in, last_key, is_differing, reported, rows_of, report}
use Rattle.merge.specs.Theorems.{are_hulls}
use Rattle.merge.proofs.MergedLines.{are_hulls-merged_lines, holds_path-merged_lines}

-- ---- a `hull` line has the path p if p is the path in it
pub has_path-hull : (p l : List ℕ) (x : Option Line) → is_hull_line x ≡ true → has_path p l x ≡ same (path_in l x) p
has_path-hull p l (Some (Hull h)) g = refl
has_path-hull p l (Some (Since x)) g = absurd (false≢true g)
has_path-hull p l None g = absurd (false≢true g)

-- ---- how often a path is reported
-- a path that is put in front of others, if a test holds, does not count for another path
times_in-other : (p q : List ℕ) (t : Bool) (ps : List (List ℕ)) → same q p ≡ false → times_in p (cond t (q ∷ ps) ps) ≡ times_in p ps
unfolding times_in
times_in-other p q true ps e = rw e
times_in-other p q false ps e = refl

-- and is the only one of its kind if the others are not the same
times_in-same : (p q : List ℕ) (t : Bool) (ps : List (List ℕ)) → same q p ≡ true → times_in p ps ≡ 0 → times_in p (cond t (q ∷ ps) ps) ≡ cond t 1 0
unfolding times_in
times_in-same p q true ps e z = rw e (ap suc z)
times_in-same p q false ps e z = z

module _ (bound : ℕ) (ls ms : List (List ℕ)) where
  -- in these lines a path is reported once if its keys differ and one of the lines has it, unless a line above has it too
  pub times_in-reported : (p : List ℕ) (above ks : List (List ℕ)) → are_hulls bound ks ≡ true
      → times_in p (reported bound ls ms above ks) ≡ cond (is_differing bound ls ms p && (holds_path bound p ks && not (holds_path bound p above))) 1 0
  unfolding reported are_hulls holds_path times_in
  times_in-reported p above [] h = rw (and-false (is_differing bound ls ms p))
  times_in-reported p above (k ∷ ks) h =
      let x = line_of bound k in
      let q = path_in k x in
      let below = reported bound ls ms (k ∷ above) ks in
      let g = both (is_hull_line x) (are_hulls bound ks) h in
      let has = has_path-hull p k x g.0 in
      let all = times_in-reported p (k ∷ above) ks g.1 in
      by_test (same q p)
      (λ y.
      let none : times_in p below ≡ 0 = all ∙ rw (has, y, and-false (holds_path bound p ks), and-false (is_differing bound ls ms p)) in
      times_in-same p q (is_differing bound ls ms q && not (holds_path bound q above)) below y none ∙ rw (has, y, eq_of_same q p y))
      (λ n. times_in-other p q (is_differing bound ls ms q && not (holds_path bound q above)) below n ∙ all ∙ rw (has, n))

  -- a path whose keys differ is in both lists
  pub holds_of_differing : (p : List ℕ) → is_differing bound ls ms p ≡ true → (holds_path bound p ls ≡ true) × (holds_path bound p ms ≡ true)
  unfolding is_differing
  holds_of_differing p d =
      both (holds_path bound p ls) (holds_path bound p ms) (both (holds_path bound p ls && holds_path bound p ms) (not (same (last_key bound p ls) (last_key bound p ms))) d).0

  -- each path whose keys differ is reported once, and no other path is
  pub reported_exactly_once : are_hulls bound ls ≡ true → are_hulls bound ms ≡ true → (p : List ℕ)
      → times_in p (reported bound ls ms [] (merged_lines bound ls ms)) ≡ cond (is_differing bound ls ms p) 1 0
  unfolding holds_path
  reported_exactly_once a b p =
      let ks = merged_lines bound ls ms in
      times_in-reported p [] ks (are_hulls-merged_lines bound ls ms ∙ rw (a, b))
      ∙ by_test (is_differing bound ls ms p) (λ y. rw (y, holds_path-merged_lines bound p ls ms, (holds_of_differing p y).0)) (λ n. rw n)

-- ---- a key has 16 bytes
module _ (bound : ℕ) (p : List ℕ) where
  -- the key of a line that has a path
  length-key_in : (l : List ℕ) (x : Option Line) → line_of bound l ≡ x → has_path p l x ≡ true → length (key_in l x) ≡ 16
  length-key_in l (Some (Hull h)) e y =
      (parts_of_is_key (part l h.key) (good_hull (part l h.path) (part l h.key) h.time (hull_written_back bound l h e).1).key_is).0
  length-key_in l (Some (Since x)) e y = absurd (false≢true y)
  length-key_in l None e y = absurd (false≢true y)

  -- the last key of a path that one of these lines has
  pub length-last_key : (ls : List (List ℕ)) → holds_path bound p ls ≡ true → length (last_key bound p ls) ≡ 16
  unfolding holds_path last_key
  length-last_key [] e = absurd (false≢true e)
  length-last_key (l ∷ ls) e =
      let x = line_of bound l in
      by_test (has_path p l x)
      (λ y. by_test (holds_path bound p ls) (λ t. rw t (length-last_key ls t)) (λ f. rw (f, y) (length-key_in l x refl y)))
      (λ n. let t = rw n at e in rw t (length-last_key ls t))

-- ---- lists without a path whose keys differ, such as an empty list and any other
module _ (bound : ℕ) (ls ms : List (List ℕ)) (none : (p : List ℕ) → is_differing bound ls ms p ≡ false) where
  -- nothing is reported of them
  reported_nothing : (above ks : List (List ℕ)) → reported bound ls ms above ks ≡ []
  unfolding reported
  reported_nothing above [] = refl
  reported_nothing above (k ∷ ks) = rw (none (path_in k (line_of bound k))) (reported_nothing (k ∷ above) ks)

  -- so the report has no rows
  no_rows : joined (rows_of bound ls ms (reported bound ls ms [] (merged_lines bound ls ms))) ≡ []
  unfolding rows_of joined
  no_rows = ap (λ (ps : List (List ℕ)). joined (rows_of bound ls ms ps)) (reported_nothing [] (merged_lines bound ls ms))

-- the report of a merge with an empty list is empty
module _ (bound : ℕ) (list : List ℕ) where
  pub report_with_empty_first : report bound [] list ≡ []
  unfolding report holds_path is_differing
  report_with_empty_first = rw ended_lines-nil (no_rows bound [] (ended_lines list) (λ p. refl))

  pub report_with_empty_second : report bound list [] ≡ []
  unfolding report holds_path is_differing
  report_with_empty_second = rw ended_lines-nil (no_rows bound (ended_lines list) [] (λ p. rw (and-false (holds_path bound p (ended_lines list)))))
