-- Front lines. In order: the first line of a text, by its kind; a front line, by the first line of the text; whose line was taken
-- (`whose_earlier`); a front line that is bad has no answer beside it (`beside_a_bad_front_line`).
-- Assumes nothing.
use Rattle.std.specs.Prelude.{None, Option, Some}
use mathlib.Core.Path.{◌≡◌, refl, sym, ap, ◌∙◌}
use mathlib.Core.Bool.{true, cond, false≢true}
use mathlib.Core.List.{List, [], ◌∷◌}
use Prim.Native.Nat.{ℕ, ◌+◌}
use native.Mathlib.Omega.{arith}
use borrow.Author.Tests.{ltb-false, eq-eqb, ne_eqb}
use lib.Dec.{ltb, eqb}
use lib.IntN.{ℤ}
use lib.ListN.{length}
use lib.Signed.{le_z}
use Rattle.text.specs.Bytes.{same}
use Rattle.text.specs.Places.{first_place, before, has}
use Rattle.text.specs.Lines.{newline}
use Rattle.text.proofs.Lists.{by_test}
use Rattle.stamps.specs.Lines.{line_of}
use Rattle.stamps.specs.Held.{first_at, hull_only, first_hull_of}
use Rattle.stamps.specs.declared.line.Line.{Line}
use Rattle.stamps.specs.declared.line.Line.TheVariants.{Hull, Since}
use Rattle.stamps.specs.declared.line.Hull.{Hull as HullValue}
use Rattle.stamps.proofs.Printed.{same_self, eq_of_same}
use Rattle.stamps.specs.declared.line.First.{First}
use Rattle.merge.specs.Lists.{or_else, faulty}
use Rattle.merge.specs.Fronts.{front_at_line, front_of, earlier_of, earlier_machine, line_from, earlier_line, front_fault, fronts_of}
use Rattle.merge.specs.Held.{hull_next, next_is, next_of, whose_of}
use Rattle.merge.specs.declared.fronts.Front.{Front}
use Rattle.merge.specs.declared.fronts.Front.TheVariants.{Empty, At, Bad}
use Rattle.merge.specs.declared.lists.Machine.{Machine}
use Rattle.merge.specs.declared.lists.Machine.TheVariants.{First as FirstMachine, Second}
use Rattle.merge.specs.declared.lists.Fault.{Fault}
use Rattle.merge.specs.declared.lists.NextHull.{NextHull}
use Rattle.merge.proofs.Orders.{le_z-turned}

-- ---- the first line of a text
module _ (bound : ℕ) (s : List ℕ) where
  -- it is a `hull` line
  pub next_hull : (h : HullValue) (n : ℕ) → first_hull_of bound s ≡ Some (record { line = Hull h; length = n })
      → cond (ltb n (length s)) (hull_next h.time.seconds (n + 1)) None ≡ next_of bound s
  unfolding next_of has
  next_hull h n e = by_line (line_of bound (before newline s)) e
    where
      by_line : (x : Option Line) → first_at (first_place newline s) (hull_only x) ≡ Some (record { line = Hull h; length = n })
          → cond (ltb n (length s)) (hull_next h.time.seconds (n + 1)) None ≡ cond (ltb (first_place newline s) (length s)) (next_is x (first_place newline s + 1)) None
      by_line (Some (Hull g)) q =
          let p : ◌≡◌ {A = First} (record { line = Hull g; length = first_place newline s }) (record { line = Hull h; length = n }) = cc in
          let l : ◌≡◌ {A = Line} (Hull g) (Hull h) = λ i. (p i).line in
          let k : g ≡ h = cc in
          λ i. cond (ltb (sym (ap First.length p) i) (length s)) (hull_next (sym k i).time.seconds (sym (ap First.length p) i + 1)) None
      by_line (Some (Since x)) q = cc
      by_line None q = cc

  -- it is none
  pub next_other : ((h : HullValue) (n : ℕ) → first_hull_of bound s ≡ Some (record { line = Hull h; length = n }) → ⊥) → None ≡ next_of bound s
  unfolding next_of
  next_other no_hull = by_line (line_of bound (before newline s)) no_hull
    where
      by_line : (x : Option Line) → ((h : HullValue) (n : ℕ) → first_at (first_place newline s) (hull_only x) ≡ Some (record { line = Hull h; length = n }) → ⊥)
          → None ≡ cond (has newline s) (next_is x (first_place newline s + 1)) None
      by_line (Some (Hull g)) f = absurd (f g (first_place newline s) refl)
      by_line (Some (Since x)) f = by_test (has newline s) (λ y. rw y) (λ y. rw y)
      by_line None f = by_test (has newline s) (λ y. rw y) (λ y. rw y)

-- it is a `hull` line, with its newline
pub record NextParts (bound : ℕ) (s : List ℕ) (z : ℤ) (n : ℕ) : Type 0 where
  pub hull : HullValue
  pub line_is : line_of bound (before newline s) ≡ Some (Hull hull)
  pub seconds_are : hull.time.seconds ≡ z
  pub ended : has newline s ≡ true
  pub size_is : n ≡ first_place newline s + 1

pub next_parts : (bound : ℕ) (s : List ℕ) (z : ℤ) (n : ℕ) → next_of bound s ≡ hull_next z n → NextParts bound s z n
unfolding next_of
next_parts bound s z n e = by_test (has newline s) (λ y. by_line (line_of bound (before newline s)) refl y (rw y at e)) (λ y. let q = rw y at e in cc)
  where
    by_line : (x : Option Line) → line_of bound (before newline s) ≡ x → has newline s ≡ true → next_is x (first_place newline s + 1) ≡ hull_next z n → NextParts bound s z n
    by_line (Some (Hull h)) is y q =
        let e : ◌≡◌ {A = NextHull} (record { seconds = h.time.seconds; size = first_place newline s + 1 }) (record { seconds = z; size = n }) = cc in
        record { hull = h; line_is = is; seconds_are = λ i. (e i).seconds; ended = y; size_is = sym (λ i. (e i).size) }
    by_line (Some (Since x)) is y q = cc
    by_line None is y q = cc

-- ---- a front line
module _ (bound : ℕ) where
  pub front_empty : (s : List ℕ) → length s ≡ 0 → Empty ≡ front_of bound s
  unfolding front_of
  front_empty [] e = refl
  front_empty (b ∷ s) e = absurd (omega arith)

  module _ (s : List ℕ) (some : length s ≡ 0 → ⊥) where
    front_of-some : front_of bound s ≡ cond (eqb (first_place newline s + 1) (length s)) (front_at_line (line_of bound (before newline s))) Bad
    unfolding front_of
    front_of-some = by_cons s some
      where
        by_cons : (t : List ℕ) → (length t ≡ 0 → ⊥) → front_of bound t ≡ cond (eqb (first_place newline t + 1) (length t)) (front_at_line (line_of bound (before newline t))) Bad
        by_cons [] h = absurd (h refl)
        by_cons (b ∷ t) h = refl

    pub front_at : (z : ℤ) (n : ℕ) → next_of bound s ≡ hull_next z n → n ≡ length s → At z ≡ front_of bound s
    front_at z n e whole =
        let p = next_parts bound s z n e in
        sym (front_of-some ∙ rw (eq-eqb (first_place newline s + 1) (length s) (sym p.size_is ∙ whole), p.line_is, p.seconds_are))

    -- the text goes on behind its first line
    pub front_longer : (z : ℤ) (n : ℕ) → next_of bound s ≡ hull_next z n → (n ≡ length s → ⊥) → Bad ≡ front_of bound s
    front_longer z n e not =
        sym (front_of-some ∙ rw (ne_eqb (first_place newline s + 1) (length s) (λ q. not ((next_parts bound s z n e).size_is ∙ q))))

    -- its first line is no `hull` line, or it has no newline
    pub front_bad : next_of bound s ≡ None → Bad ≡ front_of bound s
    unfolding next_of has
    front_bad e =
        by_test (ltb (first_place newline s) (length s))
        (λ y. sym (front_of-some ∙ rw (by_line (line_of bound (before newline s)) (rw y at e)) (by_test (eqb (first_place newline s + 1) (length s)) (λ q. rw q) (λ q. rw q))))
        (λ y. sym (front_of-some ∙ rw (ne_eqb (first_place newline s + 1) (length s) (λ q. omega (arith, ltb-false (first_place newline s) (length s) y)))))
      where
        by_line : (x : Option Line) → next_is x (first_place newline s + 1) ≡ None → front_at_line x ≡ Bad
        by_line (Some (Hull h)) q = cc
        by_line (Some (Since x)) q = refl
        by_line None q = refl

-- ---- whose line was taken
module _ (bound : ℕ) (a b : List ℕ) where
  some_of_front : (s : List ℕ) (z : ℤ) → front_of bound s ≡ At z → length s ≡ 0 → ⊥
  some_of_front s z e none = let q : Empty ≡ At z = front_empty bound s none ∙ e in cc

  whose_first : (z : ℤ) → front_of bound a ≡ At z → whose_of a a ≡ Some FirstMachine
  unfolding whose_of
  whose_first z e = rw (ne_eqb (length a) 0 (some_of_front a z e), same_self a)

  whose_second : (w : ℤ) → front_of bound b ≡ At w → (front_of bound b ≡ front_of bound a → ⊥) → whose_of b a ≡ Some Second
  unfolding whose_of
  whose_second w e other =
      rw (ne_eqb (length b) 0 (some_of_front b w e)) (by_test (same b a) (λ y. absurd (other (ap (front_of bound) (eq_of_same b a y)))) (λ n. rw n))

  whose_none : whose_of [] a ≡ None
  unfolding whose_of
  whose_none = refl

  pub whose_earlier : whose_of (earlier_line bound a b) a ≡ earlier_machine bound a b
  unfolding earlier_machine
  whose_earlier = by_fronts (front_of bound a) (front_of bound b) refl refl
    where
      by_fronts : (x y : Front) → front_of bound a ≡ x → front_of bound b ≡ y → whose_of (line_from (earlier_of x y) a b) a ≡ earlier_of x y
      by_fronts (At z) (At w) e f =
          by_test (le_z z w) (λ y. rw y (whose_first z e))
          (λ n.
          let other : front_of bound b ≡ front_of bound a → ⊥ = λ q.
          let alike : At w ≡ At z = sym f ∙ q ∙ e in
          let same-seconds : w ≡ z = cc in
          false≢true (sym n ∙ (λ i. le_z (sym same-seconds i) (same-seconds i)) ∙ le_z-turned z w n) in
          rw n (whose_second w f other))
      by_fronts (At z) Empty e f = whose_first z e
      by_fronts (At z) Bad e f = whose_none
      by_fronts Empty (At w) e f = whose_second w f (λ q. let alike : At w ≡ Empty = sym f ∙ q ∙ e in cc)
      by_fronts Empty Empty e f = whose_none
      by_fronts Empty Bad e f = whose_none
      by_fronts Bad y e f = whose_none

  -- ---- beside a bad front line there is none that is the earlier: where the check refuses, the part is empty
  pub beside_a_bad_front_line : (m : Machine) (fault : Fault) → fronts_of bound a b ≡ faulty m fault → earlier_line bound a b ≡ []
  unfolding earlier_machine fronts_of
  beside_a_bad_front_line m fault = by_fronts (front_of bound a) (front_of bound b)
    where
      by_fronts : (x y : Front) → or_else (front_fault FirstMachine x) (front_fault Second y) ≡ faulty m fault → line_from (earlier_of x y) a b ≡ []
      by_fronts (At z) (At w) e = cc
      by_fronts (At z) Empty e = cc
      by_fronts (At z) Bad e = refl
      by_fronts Empty (At w) e = cc
      by_fronts Empty Empty e = refl
      by_fronts Empty Bad e = refl
      by_fronts Bad y e = refl
