-- The first line of a text where only a `hull` line is good: one that opens with `hull` and a tab (`first_hull_only`), and any other
-- (`first_no_hull`).
-- Assumes nothing.
use Rattle.std.specs.Prelude.{None, Option, Some}
use mathlib.Core.Path.{◌≡◌, refl, sym, ap, ◌∙◌}
use mathlib.Core.Bool.{true, false, ◌&&◌, false≢true}
use mathlib.Core.List.{List, [], ◌∷◌, ◌++◌}
use Prim.Native.Nat.{ℕ}
use native.Mathlib.Omega.{arith}
use lib.ListN.{take}
use Rattle.text.specs.Bytes.{same}
use Rattle.text.specs.Quote.{bytes}
use Rattle.text.specs.Places.{first_place, before, has}
use Rattle.text.specs.Lines.{tab, newline, field, rest}
use Rattle.text.proofs.Lists.{by_test}
use Rattle.stamps.specs.Stamps.{stamp_of}
use Rattle.stamps.specs.Lines.{is_path, is_key, hull_at, hull_of, since_of, line_of}
use Rattle.stamps.specs.Theorems.{is_hull_line}
use Rattle.stamps.specs.Held.{left_at, hull_left, hull_only, first_at, first_from, first_hull_of}
use Rattle.stamps.specs.declared.line.Line.{Line}
use Rattle.stamps.specs.declared.line.Line.TheVariants.{Hull, Since}
use Rattle.stamps.specs.declared.line.First.{First}
use Rattle.stamps.proofs.Reading.{name_no_tab, hull_left-nil, first_hull}
use Rattle.stamps.proofs.WriteBack.{since_is_not-hull}
use Rattle.time.specs.declared.Time.{Time}

-- a line of `hull` is one or is bad
only_of_stamp : (path key : List ℕ) (x : Option Time) → hull_only (hull_at path key x) ≡ hull_at path key x
only_of_stamp path key (Some t) = refl
only_of_stamp path key None = refl

only_of_hull : (path key time : List ℕ) → hull_only (hull_of path key time) ≡ hull_of path key time
unfolding hull_of
only_of_hull path key time = by_test (is_path path && is_key key) (λ y. rw y (only_of_stamp path key (stamp_of time))) (λ n. rw n)

-- a line that is none is bad here
only_of_other : (x : Option Line) → is_hull_line x ≡ false → hull_only x ≡ None
only_of_other (Some (Hull h)) e = absurd (false≢true (sym e))
only_of_other (Some (Since x)) e = refl
only_of_other None e = refl

-- and so is what is read of it
only_of_first : (n m : ℕ) (x y : Option Line) → first_at n x ≡ first_at m y → hull_only x ≡ x → hull_only y ≡ y
only_of_first n m (Some l) (Some k) e h = let p : record { line = l; length = n } ≡ record { line = k; length = m } = cc in let q : l ≡ k = ap (λ (f : First). f.line) p in rw (← q) h
only_of_first n m (Some l) None e h = let z : ◌≡◌ {A = ℕ} 0 1 = cc in absurd (omega arith)
only_of_first n m None (Some k) e h = let z : ◌≡◌ {A = ℕ} 0 1 = cc in absurd (omega arith)
only_of_first n m None None e h = refl

module _ (bound : ℕ) (s : List ℕ) where
  pub first_hull_only : (r : Option First) → same (take 5 s) (bytes "hull" ++ tab ∷ []) ≡ true → r ≡ first_from s 5 (hull_left (left_at s 5)) → r ≡ first_hull_of bound s
  first_hull_only r e h =
      let f = first_hull bound s r e h in
      let m = left_at s 5 in
      let line = line_of bound (before newline s) in
      let k = only_of_first _ _ (hull_left m) line (sym h ∙ f) (only_of_hull (field m) (field (rest m)) (rest (rest m))) in
      f ∙ ap (first_at (first_place newline s)) (sym k)

  pub first_no_hull : same (take 5 s) (bytes "hull" ++ tab ∷ []) ≡ false → None ≡ first_hull_of bound s
  unfolding line_of
  first_no_hull e =
      let l = before newline s in
      let other : hull_only (line_of bound l) ≡ None =
      by_test (has newline l) (λ n. rw n)
      (λ n.
      by_test (same (field l) (bytes "hull")) (λ f. rw (n, f) (ap (λ (m : List ℕ). hull_only (hull_left m)) (name_no_tab (bytes "hull") s f e) ∙ ap hull_only hull_left-nil))
      (λ f.
      by_test (same (field l) (bytes "since")) (λ d. rw (n, f, d) (only_of_other (since_of bound (field (rest l)) (field (rest (rest l))) (rest (rest (rest l)))) (since_is_not-hull bound (field (rest l)) (field (rest (rest l))) (rest (rest (rest l)))))) (λ d. rw (n, f, d)))) in
      sym (ap (first_at (first_place newline s)) other)
