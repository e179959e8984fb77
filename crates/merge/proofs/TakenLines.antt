-- A line taken from two lists. In order: the front line of what is left of a list; it is read as what it is; the earlier of two front lines is the next
-- of the merged lines (`take-one`); how far both lists are passed.
-- Assumes nothing.
use Rattle.std.specs.Prelude.{Some}
use mathlib.Core.Path.{◌≡◌, refl, sym, ap, ◌∙◌}
use mathlib.Core.Bool.{Bool, true, false, cond, not, false≢true}
use mathlib.Core.Logic.{◌⊎◌, inl, inr, ⊎_elim}
use mathlib.Core.List.{List, [], ◌∷◌, ◌++◌}
use Prim.Native.Nat.{ℕ, ◌+◌, ◌-◌, ◌≤◌, ◌<◌}
use native.Mathlib.Omega.{arith}
use borrow.Author.Tests.{eq-eqb}
use lib.ListN.{length, take, drop, get_or, length-append, length-drop}
use lib.Seq.{drop-drop, length-take-le}
use lib.Signed.{le_z}
use Rattle.text.specs.Bytes.{same}
use Rattle.text.specs.Places.{run, first_place, before, has}
use Rattle.text.specs.Lines.{newline, ended_lines, left}
use Rattle.text.proofs.Lists.{by_test, both, take_snoc}
use Rattle.text.proofs.FirstPlaces.{get_or-first_place}
use Rattle.stamps.specs.Lines.{line_of, is_good}
use Rattle.stamps.specs.Theorems.{is_hull_line}
use Rattle.stamps.specs.declared.line.Line.TheVariants.{Hull}
use Rattle.stamps.specs.declared.line.Hull.{Hull as HullValue}
use Rattle.stamps.proofs.Printed.{same_self, eq_of_same}
use Rattle.stamps.proofs.Fields.{length_before}
use Rattle.stamps.proofs.Books.{behind, first_place-lt, ended_lines-first, left_first, ended_lines-open, left_open}
use Rattle.stamps.proofs.Listings.{not_has_newline_of_good}
use Rattle.compact.proofs.LastLines.{before_line}
use Rattle.merge.specs.Fronts.{front_of, earlier_machine, earlier_line}
use Rattle.merge.specs.Merge.{merged_lines}
use Rattle.merge.specs.Theorems.{are_hulls}
use Rattle.merge.specs.Held.{front_from}
use Rattle.merge.specs.declared.fronts.Front.TheVariants.{At}
use Rattle.merge.proofs.MergedLines.{merged_lines-nil-left, merged_lines-nil-right}
use Rattle.merge.proofs.Orders.{le_z-turned}
use Rattle.merge.proofs.LastKeys.{hull_of_line}

-- ---- what is left of a list from a place on
pub record IsRest (bound : ℕ) (list : List ℕ) (at : ℕ) : Type 0 where
  pub within : at ≤ length list
  pub whole : left (drop at list) ≡ []
  pub hulls : are_hulls bound (ended_lines (drop at list)) ≡ true

-- nothing is left, or a line
pub record NoFront (list : List ℕ) (at : ℕ) (front : List ℕ) : Type 0 where
  pub done : length list ≤ at
  pub lines_are : ended_lines (drop at list) ≡ []
  pub front_is : front ≡ []

pub record SomeFront (bound : ℕ) (list : List ℕ) (at : ℕ) (front : List ℕ) : Type 0 where
  pub line : List ℕ
  pub hull : HullValue
  pub line_is : line_of bound line ≡ Some (Hull hull)
  pub front_is : front ≡ line ++ newline ∷ []
  pub lines_are : ended_lines (drop at list) ≡ line ∷ ended_lines (drop (at + length front) list)
  pub rest : IsRest bound list (at + length front)

module _ (bound : ℕ) (list : List ℕ) (at : ℕ) (r : IsRest bound list at) (front : List ℕ) (is : front ≡ front_from list at) where
  abbrev s : List ℕ
  s = drop at list

  no_front : has newline s ≡ false → NoFront list at front
  unfolding first_place run
  no_front n =
      let none = ended_lines-open s n in
      let empty : s ≡ [] = sym (left_open s none) ∙ r.whole in
      record {
        done = omega (arith, ap length empty, length-drop at list);
        lines_are = none;
        front_is = is ∙ ap (λ (t : List ℕ). take (first_place newline t + 1) t) empty;
      }

  some_front : has newline s ≡ true → SomeFront bound list at front
  unfolding are_hulls
  some_front y =
      let lt = first_place-lt s y in
      let l = before newline s in
      let back : first_place newline s + 1 - 1 ≡ first_place newline s = omega arith in
      let front_is : front ≡ l ++ newline ∷ [] =
      is ∙ take_snoc s (first_place newline s + 1) (omega arith) (omega arith) ∙ (λ i. take (back i) s ++ get_or s (back i) 0 ∷ []) ∙ ap (λ (b : ℕ). l ++ b ∷ []) (get_or-first_place newline s lt) in
      let size : length front ≡ first_place newline s + 1 = ap length is ∙ length-take-le (first_place newline s + 1) s (omega arith) in
      let next : behind s ≡ drop (at + length front) list = ap (λ (n : ℕ). drop n s) (sym size) ∙ drop-drop (length front) at list in
      let lines_are : ended_lines s ≡ l ∷ ended_lines (drop (at + length front) list) = ended_lines-first s y ∙ ap (λ (t : List ℕ). l ∷ ended_lines t) next in
      let hulls = both (is_hull_line (line_of bound l)) (are_hulls bound (ended_lines (drop (at + length front) list))) (sym (ap (are_hulls bound) lines_are) ∙ r.hulls) in
      let value = hull_of_line (line_of bound l) hulls.0 in
      record {
        line = l;
        hull = value.0;
        line_is = value.1;
        front_is = front_is;
        lines_are = lines_are;
        rest = record {
          within = omega (arith, size, lt, length-drop at list, r.within);
          whole = ap left (sym next) ∙ sym (left_first s y) ∙ r.whole;
          hulls = hulls.1;
        };
      }

  pub front_of_rest : NoFront list at front ⊎ SomeFront bound list at front
  front_of_rest = by_test (has newline s) (λ y. inr (some_front y)) (λ n. inl (no_front n))

-- ---- a front line is read as what it is
front_of_line : (bound : ℕ) (l : List ℕ) (h : HullValue) → line_of bound l ≡ Some (Hull h) → front_of bound (l ++ newline ∷ []) ≡ At h.time.seconds
unfolding front_of
front_of_line bound l h e = by_cons (l ++ newline ∷ []) refl
  where
    by_cons : (t : List ℕ) → t ≡ l ++ newline ∷ [] → front_of bound t ≡ At h.time.seconds
    by_cons [] q = absurd (omega (arith, ap length q, length-append l (newline ∷ [])))
    by_cons (b ∷ t) q =
        let line_is : before newline (b ∷ t) ≡ l = ap (before newline) q ∙ before_line l [] (not_has_newline_of_good bound l (ap is_good e)) in
        let size : first_place newline (b ∷ t) + 1 ≡ length (b ∷ t) = omega (arith, length_before newline (b ∷ t), ap length line_is, ap length q, length-append l (newline ∷ [])) in
        rw (eq-eqb (first_place newline (b ∷ t) + 1) (length (b ∷ t)) size, line_is, e)

-- ---- the earlier of two front lines is the next of the merged lines
-- a line is taken, and i' and j' are the places behind what was taken
pub record Step (bound : ℕ) (first second : List ℕ) (i j : ℕ) (line : List ℕ) (i' j' : ℕ) : Type 0 where
  pub taken : List ℕ
  pub hull : HullValue
  pub taken_is : line_of bound taken ≡ Some (Hull hull)
  pub line_is : line ≡ taken ++ newline ∷ []
  pub merged_is : merged_lines bound (ended_lines (drop i first)) (ended_lines (drop j second)) ≡ taken ∷ merged_lines bound (ended_lines (drop i' first)) (ended_lines (drop j' second))
  pub first_rest : IsRest bound first i'
  pub second_rest : IsRest bound second j'

module _ (bound : ℕ) (first second : List ℕ) (i j : ℕ) (a b line : List ℕ) (line_is : line ≡ earlier_line bound a b) where
  abbrev pub FirstStep : Type 0
  FirstStep = Step bound first second i j line (i + length line) j

  abbrev pub SecondStep : Type 0
  SecondStep = Step bound first second i j line i (j + length line)

  -- what was taken is the first machine's line exactly if it is the same line
  abbrev pub Taken : Type 0
  Taken = (same line a ≡ true → FirstStep) × (same line a ≡ false → SecondStep)

  taken_first : (f : SomeFront bound first i a) → IsRest bound second j → line ≡ a
      → merged_lines bound (ended_lines (drop i first)) (ended_lines (drop j second)) ≡ f.line ∷ merged_lines bound (ended_lines (drop (i + length a) first)) (ended_lines (drop j second)) → Taken
  taken_first f r is merged =
      let size : i + length a ≡ i + length line = ap (λ (l : List ℕ). i + length l) (sym is) in (
        λ y. record {
          taken = f.line;
          hull = f.hull;
          taken_is = f.line_is;
          line_is = is ∙ f.front_is;
          merged_is = merged ∙ ap (λ (n : ℕ). f.line ∷ merged_lines bound (ended_lines (drop n first)) (ended_lines (drop j second))) size;
          first_rest = rw (← size) f.rest;
          second_rest = r;
        },
        λ n. absurd (false≢true (sym n ∙ ap (λ (l : List ℕ). same l a) is ∙ same_self a)),
      )

  taken_second : (g : SomeFront bound second j b) → IsRest bound first i → line ≡ b → (b ≡ a → ⊥)
      → merged_lines bound (ended_lines (drop i first)) (ended_lines (drop j second)) ≡ g.line ∷ merged_lines bound (ended_lines (drop i first)) (ended_lines (drop (j + length b) second)) → Taken
  taken_second g r is other merged =
      let size : j + length b ≡ j + length line = ap (λ (l : List ℕ). j + length l) (sym is) in (
        λ y. absurd (other (sym is ∙ eq_of_same line a y)),
        λ n. record {
          taken = g.line;
          hull = g.hull;
          taken_is = g.line_is;
          line_is = is ∙ g.front_is;
          merged_is = merged ∙ ap (λ (m : ℕ). g.line ∷ merged_lines bound (ended_lines (drop i first)) (ended_lines (drop m second))) size;
          first_rest = r;
          second_rest = rw (← size) g.rest;
        },
      )

  -- how the two front lines are read
  seconds_of_front : {list : List ℕ} {at : ℕ} {front : List ℕ} (f : SomeFront bound list at front) → front_of bound front ≡ At f.hull.time.seconds
  seconds_of_front f = ap (front_of bound) f.front_is ∙ front_of_line bound f.line f.hull f.line_is

  front-not-nil : {list : List ℕ} {at : ℕ} {front : List ℕ} (f : SomeFront bound list at front) → front ≡ [] → ⊥
  front-not-nil f e = omega (arith, ap length f.front_is, ap length e, length-append f.line (newline ∷ []))

  module _ (r : IsRest bound first i) (t : IsRest bound second j) where
    only_first : SomeFront bound first i a → NoFront second j b → Taken
    unfolding earlier_machine front_of
    only_first f g =
        let machine : earlier_line bound a b ≡ a = rw (seconds_of_front f, g.front_is) in
        taken_first f t (line_is ∙ machine)
        ((λ k. merged_lines bound (f.lines_are k) (g.lines_are k)) ∙ merged_lines-nil-right bound (f.line ∷ ended_lines (drop (i + length a) first))
        ∙ ap (λ (ls : List (List ℕ)). f.line ∷ ls) (sym (ap (merged_lines bound (ended_lines (drop (i + length a) first))) g.lines_are ∙ merged_lines-nil-right bound (ended_lines (drop (i + length a) first)))))

    only_second : NoFront first i a → SomeFront bound second j b → Taken
    unfolding earlier_machine front_of
    only_second f g =
        let machine : earlier_line bound a b ≡ b = rw (f.front_is, seconds_of_front g) in
        taken_second g r (line_is ∙ machine) (λ e. front-not-nil g (e ∙ f.front_is))
        ((λ k. merged_lines bound (f.lines_are k) (g.lines_are k)) ∙ merged_lines-nil-left bound (g.line ∷ ended_lines (drop (j + length b) second))
        ∙ ap (λ (ls : List (List ℕ)). g.line ∷ ls) (sym (ap (λ (ls : List (List ℕ)). merged_lines bound ls (ended_lines (drop (j + length b) second))) f.lines_are ∙ merged_lines-nil-left bound (ended_lines (drop (j + length b) second)))))

    both_left : SomeFront bound first i a → SomeFront bound second j b → Taken
    unfolding earlier_machine merged_lines
    both_left f g =
        let z = f.hull.time.seconds in
        let w = g.hull.time.seconds in
        let ls = ended_lines (drop (i + length a) first) in
        let ms = ended_lines (drop (j + length b) second) in
        by_test (le_z z w)
        (λ y.
        let machine : earlier_line bound a b ≡ a = rw (seconds_of_front f, seconds_of_front g, y) in
        taken_first f t (line_is ∙ machine) ((λ k. merged_lines bound (f.lines_are k) (g.lines_are k)) ∙ rw (f.line_is, g.line_is, y) (ap (λ (ks : List (List ℕ)). f.line ∷ merged_lines bound ls ks) (sym g.lines_are))))
        (λ n.
        let machine : earlier_line bound a b ≡ b = rw (seconds_of_front f, seconds_of_front g, n) in
        let other : b ≡ a → ⊥ = λ e.
        let q : At w ≡ At z = sym (seconds_of_front g) ∙ ap (front_of bound) e ∙ seconds_of_front f in
        let same-seconds : w ≡ z = cc in
        false≢true (sym n ∙ (λ k. le_z (sym same-seconds k) (same-seconds k)) ∙ le_z-turned z w n) in
        taken_second g r (line_is ∙ machine) other ((λ k. merged_lines bound (f.lines_are k) (g.lines_are k)) ∙ rw (f.line_is, g.line_is, n) (ap (λ (ks : List (List ℕ)). g.line ∷ merged_lines bound ks ms) (sym f.lines_are))))

    pub take-one : a ≡ front_from first i → b ≡ front_from second j → (i < length first) ⊎ (j < length second) → Taken
    take-one e f some =
        ⊎_elim
        (λ x.
        ⊎_elim (λ y. absurd (⊎_elim (λ h. omega (arith, x.done)) (λ h. omega (arith, y.done)) some)) (λ y. only_second x y) (front_of_rest bound second j t b f))
        (λ x. ⊎_elim (λ y. only_first x y) (λ y. both_left x y) (front_of_rest bound second j t b f))
        (front_of_rest bound first i r a e)

-- ---- how far both lists are passed: one of them by the n bytes of the line, the other not at all
pub sizes-add-up : (b : Bool) (n r s : ℕ) → r ≡ cond b n 0 → s ≡ cond (not b) n 0 → r + s ≡ n
sizes-add-up true n r s e f = omega (arith, e, f)
sizes-add-up false n r s e f = omega (arith, e, f)

module _ (bound : ℕ) (first second : List ℕ) (i j : ℕ) (line : List ℕ) where
  pub step_by : (b : Bool) (n r s : ℕ) → r ≡ cond b n 0 → s ≡ cond (not b) n 0
      → (b ≡ true → Step bound first second i j line (i + n) j) → (b ≡ false → Step bound first second i j line i (j + n)) → Step bound first second i j line (i + r) (j + s)
  step_by true n r s e f from_First from_Second = let g : j + s ≡ j = omega (arith, f) in rw (e, g) (from_First refl)
  step_by false n r s e f from_First from_Second = let g : i + r ≡ i = omega (arith, e) in rw (f, g) (from_Second refl)
