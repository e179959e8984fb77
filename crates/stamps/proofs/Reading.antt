-- The first line of a text as it is read, and a whole text. In order: a text that opens with a name and a tab; a line by its
-- first field; the first line of a text, and what is read of it; a text that holds a newline is no line.
-- Assumes nothing.
use Rattle.std.specs.Prelude.{None, Option, Some, nat_eq}
use Rattle.std.specs.Cmp.Lexicographic.{pointwise}
use Rattle.std.specs.List.{starts_with}
use mathlib.Core.Path.{◌≡◌, refl, sym, ap, ◌∙◌, subst}
use mathlib.Core.Bool.{Bool, true, false, false≢true}
use mathlib.Core.List.{List, [], ◌∷◌, ◌++◌, append_assoc}
use Prim.Native.Nat.{ℕ, suc, ◌+◌, ◌≤◌}
use native.Mathlib.Omega.{arith}
use native.Mathlib.Nat.{zero-add}
use borrow.Author.Tests.{eqb-true, eq-eqb, ne_eqb, ltb-true, ltb-false}
use lib.Dec.{ltb, eqb}
use lib.ListN.{length, get_or, take, drop, take-append-drop}
use lib.Seq.{length-take-le, take_all, take-suc, take-append_seam, drop-append_seam}
use Rattle.text.specs.Bytes.{same}
use Rattle.text.specs.Quote.{bytes}
use Rattle.text.specs.Places.{run, leading, first_place, before, has, opens_with}
use Rattle.text.specs.Lines.{tab, newline, field, rest}
use Rattle.text.proofs.Lists.{by_test, both}
use Rattle.text.proofs.Runs.{run-le-length}
use Rattle.stamps.specs.Stamps.{printed}
use Rattle.stamps.specs.Lines.{every, is_path, line_of, is_good}
use Rattle.stamps.specs.Held.{is_text_byte, left_at, hull_left, since_left, first_at, first_from, first_of}
use Rattle.stamps.specs.declared.line.Line.{Line}
use Rattle.stamps.specs.declared.line.Line.TheVariants.{Hull, Since}
use Rattle.stamps.specs.declared.line.First.{First}
use Rattle.stamps.proofs.Fields.{has_before, first_place-le-length, field-nil, rest-nil, opens_with-drop, field_before-leading, rest_before-nil, FieldEnds, field_ends, ends_behind}
use Rattle.stamps.proofs.Printed.{same_self, eq_of_same}
use Rattle.stamps.proofs.HullLines.{hull_of_no_path}
use Rattle.stamps.proofs.SinceLines.{since_of_no_seconds, printed-nil}

-- ---- a text that opens with a name and a tab
length-le-run : (p : ℕ → Bool) (w t : List ℕ) → every p w ≡ true → length w ≤ run p (w ++ t)
unfolding every run
length-le-run p [] t e = omega arith
length-le-run p (b ∷ w) t e = let k = both (p b) (every p w) e in rw k.0 (omega (arith, length-le-run p w t k.1))

module _ (w s : List ℕ) where
  split_name : same (take (length w + 1) s) (w ++ tab ∷ []) ≡ true → s ≡ w ++ tab ∷ drop (length w + 1) s
  split_name e =
      sym (take-append-drop (length w + 1) s) ∙ ap (λ (t : List ℕ). t ++ drop (length w + 1) s) (eq_of_same _ _ e)
      ∙ append_assoc w (tab ∷ []) (drop (length w + 1) s)

  -- the name is its first field
  name_ends : every is_text_byte w ≡ true → same (take (length w + 1) s) (w ++ tab ∷ []) ≡ true → FieldEnds s 0 (length w)
  name_ends h e =
      let r = drop (length w + 1) s in
      let z : 0 + length w ≡ length w = omega arith in
      let f : FieldEnds (w ++ tab ∷ r) 0 (0 + length w) = field_ends (w ++ tab ∷ r) 0 (length w) (length-le-run is_text_byte w (tab ∷ r) h) (rw (z, drop-append_seam w (tab ∷ r))) in
      subst (λ (t : List ℕ). FieldEnds t 0 (length w)) (sym (split_name e)) (rw z at f)

  take-name : same (take (length w + 1) s) (w ++ tab ∷ []) ≡ true → take (length w) s ≡ w
  take-name e = ap (take (length w)) (split_name e) ∙ take-append_seam w (tab ∷ drop (length w + 1) s)

  -- if it does not open so, and its first field is the name, nothing follows
  pub name_no_tab : same (field (before newline s)) w ≡ true → same (take (length w + 1) s) (w ++ tab ∷ []) ≡ false → rest (before newline s) ≡ []
  name_no_tab e d =
      let n = run is_text_byte s in
      let f : leading is_text_byte s ≡ w = sym (field_before-leading s) ∙ eq_of_same _ _ e in
      let l : length w + 1 ≡ suc n = omega (arith, length-take-le n s (run-le-length is_text_byte s), ap length f) in
      by_test (opens_with tab (drop n s))
      (λ o.
      let p = both (ltb n (length s)) (eqb (get_or s n 0) tab) (sym (opens_with-drop tab s n) ∙ o) in
      let g : get_or s n 0 ≡ tab = eqb-true _ _ p.1 in
      let k : take (length w + 1) s ≡ w ++ tab ∷ [] = ap (λ (i : ℕ). take i s) l ∙ take-suc s n 0 (ltb-true _ _ p.0) ∙ (λ i. f i ++ (g i ∷ [])) in
      absurd (false≢true (sym d ∙ ap (λ (t : List ℕ). same t (w ++ tab ∷ [])) k ∙ same_self _)))
      (λ o. rest_before-nil s o)

-- std's test of the front of a text
same_turned : (w t : List ℕ) → pointwise nat_eq w t ≡ same t w
unfolding same
same_turned [] [] = refl
same_turned [] (y ∷ t) = refl
same_turned (x ∷ w) [] = refl
same_turned (x ∷ w) (y ∷ t) =
    by_test (eqb x y) (λ e. let k : x ≡ y = eqb-true x y e in rw (k, same_turned w t)) (λ e. rw (e, ne_eqb y x (λ k. false≢true (sym e ∙ eq-eqb x y (sym k)))))

pub opens_is : (w s : List ℕ) → starts_with nat_eq s w ≡ same (take (length w) s) w
opens_is w s = same_turned w (take (length w) s)

-- ---- a line by its first field
pub hull_left-nil : hull_left [] ≡ None
unfolding is_path
hull_left-nil = hull_of_no_path _ _ _ (ap is_path field-nil)

since_left-nil : (bound : ℕ) → since_left bound [] ≡ None
since_left-nil bound = since_of_no_seconds bound _ _ _ (ap (λ (t : List ℕ). printed (field t)) rest-nil ∙ ap printed field-nil ∙ printed-nil)

module _ (bound : ℕ) (l : List ℕ) (h : has newline l ≡ false) where
  pub line_of-hull : field l ≡ bytes "hull" → line_of bound l ≡ hull_left (rest l)
  unfolding line_of same
  line_of-hull e = rw (h, e)

  pub line_of-since : field l ≡ bytes "since" → line_of bound l ≡ since_left bound (rest l)
  unfolding line_of same
  line_of-since e = rw (h, e)

  line_of-bad : (same (field l) (bytes "hull") ≡ true → rest l ≡ []) → (same (field l) (bytes "since") ≡ true → rest l ≡ []) → line_of bound l ≡ None
  unfolding line_of
  line_of-bad f g =
      by_test (same (field l) (bytes "hull")) (λ e. rw (h, e) (ap hull_left (f e) ∙ hull_left-nil))
      (λ e. by_test (same (field l) (bytes "since")) (λ d. rw (h, e, d) (ap (since_left bound) (g d) ∙ since_left-nil bound)) (λ d. rw (h, e, d)))

-- the first line of a text
module _ (bound : ℕ) (s : List ℕ) (r : Option First) where
  pub first_hull : same (take 5 s) (bytes "hull" ++ tab ∷ []) ≡ true → r ≡ first_from s 5 (hull_left (left_at s 5)) → r ≡ first_of bound s
  unfolding every is_text_byte
  first_hull e h =
      let f = name_ends (bytes "hull") s refl e in
      ends_behind f (line_of-hull bound (before newline s) (has_before newline s) (f.field_is ∙ take-name (bytes "hull") s e) ∙ ap hull_left f.rest_is) h
      ∙ ap (λ (n : ℕ). first_at n (line_of bound (before newline s))) (zero-add _)

  pub first_since : same (take 6 s) (bytes "since" ++ tab ∷ []) ≡ true → r ≡ first_from s 6 (since_left bound (left_at s 6)) → r ≡ first_of bound s
  unfolding every is_text_byte
  first_since e h =
      let f = name_ends (bytes "since") s refl e in
      ends_behind f (line_of-since bound (before newline s) (has_before newline s) (f.field_is ∙ take-name (bytes "since") s e) ∙ ap (since_left bound) f.rest_is) h
      ∙ ap (λ (n : ℕ). first_at n (line_of bound (before newline s))) (zero-add _)

pub first_is_bad : (bound : ℕ) (s : List ℕ) → same (take 5 s) (bytes "hull" ++ tab ∷ []) ≡ false → same (take 6 s) (bytes "since" ++ tab ∷ []) ≡ false → None ≡ first_of bound s
first_is_bad bound s e d =
    sym (ap (first_at (first_place newline s)) (line_of-bad bound (before newline s) (has_before newline s) (λ f. name_no_tab (bytes "hull") s f e) (λ f. name_no_tab (bytes "since") s f d)))

-- ---- what is read of it is a good line of as many bytes, or it is bad
pub first_some : (n : ℕ) (x : Option Line) (f : First) → first_at n x ≡ Some f → (x ≡ Some f.line) × (f.length ≡ n)
first_some n (Some l) f e = let p : record { line = l; length = n } ≡ f = cc in (ap (λ (v : First). Some v.line) p, sym (ap (λ (v : First). v.length) p))
first_some n None f e = let z : ◌≡◌ {A = ℕ} 0 1 = cc in absurd (omega arith)

pub first_none : (n : ℕ) (x : Option Line) → first_at n x ≡ None → x ≡ None
first_none n (Some l) e = let z : ◌≡◌ {A = ℕ} 0 1 = cc in absurd (omega arith)
first_none n None e = refl

-- ---- a text that holds a newline is no line
line_of-newline : (bound : ℕ) (s : List ℕ) → has newline s ≡ true → line_of bound s ≡ None
unfolding line_of
line_of-newline bound s e = rw e

pub bad_of_not-good : (l : Option Line) → is_good l ≡ false → l ≡ None
bad_of_not-good (Some (Hull h)) e = absurd (false≢true (sym e))
bad_of_not-good (Some (Since x)) e = absurd (false≢true (sym e))
bad_of_not-good None e = refl

module _ (bound : ℕ) (s : List ℕ) where
  -- without a newline it is all of the text
  first_whole : has newline s ≡ false → line_of bound (before newline s) ≡ line_of bound s
  unfolding has
  first_whole h = ap (line_of bound) (take_all (first_place newline s) s (ltb-false _ _ h))

  pub read_whole : (f : First) → first_of bound s ≡ Some f → f.length ≡ length s → Some f.line ≡ line_of bound s
  unfolding has
  read_whole f e l =
      let p = first_some (first_place newline s) (line_of bound (before newline s)) f e in
      by_test (has newline s) (λ h. let k = ltb-true (first_place newline s) (length s) h in absurd (omega (arith, p.1))) (λ h. sym p.0 ∙ first_whole h)

  pub read-not-whole : (f : First) → first_of bound s ≡ Some f → (f.length ≡ length s → ⊥) → None ≡ line_of bound s
  unfolding has
  read-not-whole f e n =
      let p = first_some (first_place newline s) (line_of bound (before newline s)) f e in
      by_test (has newline s) (λ h. sym (line_of-newline bound s h))
      (λ h. absurd (n (omega (arith, p.1, ltb-false (first_place newline s) (length s) h, first_place-le-length newline s))))

  pub read_bad : first_of bound s ≡ None → None ≡ line_of bound s
  read_bad e =
      by_test (has newline s) (λ h. sym (line_of-newline bound s h))
      (λ h. sym (first_none (first_place newline s) (line_of bound (before newline s)) e) ∙ first_whole h)
