-- The order of the merged lines. In order: seconds and their order; the merged lines of two sorted lists are sorted (`merged_is_sorted`); of the lines
-- that have the same seconds, those of the first list come first, and each list's keep their order (`merge_is_stable`).
-- Assumes nothing.
use Rattle.std.specs.Prelude.{None, Option, Some}
use mathlib.Core.Path.{◌≡◌, refl, sym, ap, ◌∙◌, subst}
use mathlib.Core.Bool.{true, false, false≢true, and-false}
use mathlib.Core.List.{List, [], ◌∷◌, ◌++◌, append-nil}
use Prim.Native.Nat.{ℕ}
use native.Mathlib.Omega.{arith}
use borrow.Author.Tests.{le-leb, leb-false}
use lib.Dec.{T}
use lib.IntN.{ℤ, pos, negsuc}
use lib.Signed.{le_z, ◌≤ℤ◌, le_z_yes, ≤ℤ_refl}
use Rattle.ints.proofs.Parts.{ints}
use Rattle.ints.proofs.Machine.{le_z-true}
use Rattle.text.proofs.Lists.{by_test, both}
use Rattle.stamps.specs.Lines.{line_of}
use Rattle.stamps.specs.Theorems.{is_hull_line}
use Rattle.stamps.specs.declared.line.Line.{Line}
use Rattle.stamps.specs.declared.line.Line.TheVariants.{Hull, Since}
use Rattle.merge.specs.Merge.{seconds_in, is_in_order, merged_lines}
use Rattle.merge.specs.Theorems.{are_hulls, is_sorted, is_at, lines_at}

-- ---- seconds and their order
-- seconds that passed the test are in order
le_of_le_z : (a b : ℤ) → le_z a b ≡ true → a ≤ℤ b
le_of_le_z a b e = le_z_yes (subst T (sym e) tt)

le_z-trans : (a b c : ℤ) → le_z a b ≡ true → le_z b c ≡ true → le_z a c ≡ true
le_z-trans a b c p q = let h : a ≤ℤ c = omega (ints, le_of_le_z a b p, le_of_le_z b c q) in le_z-true h

-- of two numbers one is at most the other
pub le_z-turned : (a b : ℤ) → le_z a b ≡ false → le_z b a ≡ true
le_z-turned (pos a) (pos b) e = le-leb b a (omega (arith, leb-false a b e))
le_z-turned (pos a) (negsuc b) e = refl
le_z-turned (negsuc a) (pos b) e = absurd (false≢true (sym e))
le_z-turned (negsuc a) (negsuc b) e = le-leb a b (omega (arith, leb-false b a e))

-- of two lines that are not in order, the second is before the first
is_in_order-turned : (a b : Option ℤ) → is_in_order a b ≡ false → is_in_order b a ≡ true
is_in_order-turned (Some a) (Some b) e = le_z-turned a b e
is_in_order-turned (Some a) None e = absurd (false≢true (sym e))
is_in_order-turned None b e = refl

-- a line is in order with itself
is_in_order-self : (a : Option ℤ) → is_in_order a a ≡ true
is_in_order-self (Some a) = le_z-true (≤ℤ_refl a)
is_in_order-self None = refl

-- lines that are in order with one between them are in order
is_in_order-trans : (a : Option ℤ) (b : ℤ) (c : Option ℤ) → is_in_order a (Some b) ≡ true → is_in_order (Some b) c ≡ true → is_in_order a c ≡ true
is_in_order-trans (Some a) b (Some c) p q = le_z-trans a b c p q
is_in_order-trans None b (Some c) p q = refl
is_in_order-trans a b None p q = refl

-- a `hull` line has seconds
seconds_of_hull : (x : Option Line) → is_hull_line x ≡ true → (z : ℤ) × (seconds_in x ≡ Some z)
seconds_of_hull (Some (Hull h)) g = (h.time.seconds, refl)
seconds_of_hull (Some (Since x)) g = absurd (false≢true g)
seconds_of_hull None g = absurd (false≢true g)

module _ (bound : ℕ) where
  -- ---- lines that are sorted, below a line with these seconds, are so when they are merged
  pub merged_is_sorted : (above : Option ℤ) (ls ms : List (List ℕ)) → is_sorted bound above ls ≡ true → is_sorted bound above ms ≡ true
      → is_sorted bound above (merged_lines bound ls ms) ≡ true
  unfolding merged_lines is_sorted
  merged_is_sorted above [] ms a b = b
  merged_is_sorted above (l ∷ ls) [] a b = a
  merged_is_sorted above (l ∷ ls) (m ∷ ms) a b =
      let s = seconds_in (line_of bound l) in
      let t = seconds_in (line_of bound m) in
      let p = both (is_in_order above s) (is_sorted bound s ls) a in
      let q = both (is_in_order above t) (is_sorted bound t ms) b in
      by_test (is_in_order s t) (λ y. rw (y, p.0) (merged_is_sorted s ls (m ∷ ms) p.1 (rw y q.1)))
      (λ n. rw (n, q.0) (merged_is_sorted t (l ∷ ls) ms (rw (is_in_order-turned s t n) p.1) q.1))

  -- ---- lines with the same seconds
  module _ (z : ℤ) where
    -- `hull` lines that are sorted below a line with later seconds than z have no line with z
    lines_at-before : (above : Option ℤ) (ls : List (List ℕ)) → is_in_order above (Some z) ≡ false → are_hulls bound ls ≡ true → is_sorted bound above ls ≡ true → lines_at bound z ls ≡ []
    unfolding are_hulls is_sorted lines_at
    lines_at-before above [] e h o = refl
    lines_at-before above (l ∷ ls) e h o =
        let s = seconds_in (line_of bound l) in
        let g = both (is_hull_line (line_of bound l)) (are_hulls bound ls) h in
        let p = both (is_in_order above s) (is_sorted bound s ls) o in
        let w = seconds_of_hull (line_of bound l) g.0 in
        let later : is_in_order (Some w.0) (Some z) ≡ false =
        by_test (is_in_order (Some w.0) (Some z)) (λ y. absurd (false≢true (sym e ∙ is_in_order-trans above w.0 (Some z) (sym (ap (is_in_order above) w.1) ∙ p.0) y))) (λ n. n) in
        rw (w.1, later, and-false (le_z z w.0)) (lines_at-before (Some w.0) ls later g.1 (sym (ap (λ (a : Option ℤ). is_sorted bound a ls) w.1) ∙ p.1))

    -- a line that is not in order with a line with the seconds z, which is next, is later than z
    later_of_not_in_order : (a b : Option ℤ) → is_in_order a b ≡ false → is_at z b ≡ true → is_in_order a (Some z) ≡ false
    later_of_not_in_order a (Some b) e i =
        by_test (is_in_order a (Some z)) (λ y. absurd (false≢true (sym e ∙ is_in_order-trans a z (Some b) y (both (le_z z b) (le_z b z) i).0))) (λ n. n)
    later_of_not_in_order a None e i = absurd (false≢true i)

    -- of the lines with the seconds z the first list's come first, and each list's keep their order
    pub merge_is_stable : (above : Option ℤ) (ls ms : List (List ℕ)) → are_hulls bound ls ≡ true → is_sorted bound above ls ≡ true
        → lines_at bound z (merged_lines bound ls ms) ≡ lines_at bound z ls ++ lines_at bound z ms
    unfolding merged_lines are_hulls is_sorted lines_at
    merge_is_stable above [] ms h o = refl
    merge_is_stable above (l ∷ ls) [] h o = sym (append-nil _)
    merge_is_stable above (l ∷ ls) (m ∷ ms) h o =
        let s = seconds_in (line_of bound l) in
        let t = seconds_in (line_of bound m) in
        let g = both (is_hull_line (line_of bound l)) (are_hulls bound ls) h in
        let p = both (is_in_order above s) (is_sorted bound s ls) o in
        by_test (is_in_order s t)
        (λ y.
        let below = merge_is_stable s ls (m ∷ ms) g.1 p.1 in
        by_test (is_at z s) (λ i. rw (y, i, below)) (λ i. rw (y, i, below)))
        (λ n.
        let below = merge_is_stable above (l ∷ ls) ms h o in
        by_test (is_at z t)
        (λ i.
        let none = lines_at-before s (l ∷ ls) (later_of_not_in_order s t n i) h (rw (is_in_order-self s) p.1) in
        rw (n, i, below, none))
        (λ i. rw (n, i, below)))
