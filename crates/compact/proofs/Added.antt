-- A book that goes on. In order: whether it was compacted before does not matter (`kept_append`), so twice is once (`kept_twice`); a line whose path is
-- not there is kept behind the others (`kept_new_line`).
-- Assumes nothing.
use Rattle.std.specs.Prelude.{None, Option, Some}
use mathlib.Core.Path.{◌≡◌, refl, sym, ap, ◌∙◌}
use mathlib.Core.Bool.{Bool, true, false, not, ◌||◌, false≢true}
use mathlib.Core.List.{List, [], ◌∷◌, ◌++◌, append-nil}
use Prim.Native.Nat.{ℕ}
use Rattle.text.specs.Places.{part}
use Rattle.text.proofs.Lists.{by_test}
use Rattle.stamps.specs.Lines.{line_of}
use Rattle.stamps.specs.declared.line.Line.{Line}
use Rattle.stamps.specs.declared.line.Line.TheVariants.{Hull, Since}
use Rattle.stamps.proofs.Printed.{same_self}
use Rattle.compact.specs.Compact.{has_path, holds_path, is_kept, kept}
use Rattle.compact.specs.Theorems.{IsNew}
use Rattle.compact.proofs.Kept.{kept_taken, holds_path-append, same_paths}

module _ (bound : ℕ) where
  -- ---- a book that goes on
  is_kept-append : (l : List ℕ) (x : Option Line) (a b c : List (List ℕ)) → ((p : List ℕ) → holds_path bound p a ≡ holds_path bound p b) → is_kept bound l x (a ++ c) ≡ is_kept bound l x (b ++ c)
  is_kept-append l (Some (Hull h)) a b c e =
      let p = part l h.path in
      ap not (holds_path-append bound p a c ∙ ap (λ (t : Bool). t || holds_path bound p c) (e p) ∙ sym (holds_path-append bound p b c))
  is_kept-append l (Some (Since x)) a b c e = refl
  is_kept-append l None a b c e = refl

  gone-append : (l : List ℕ) (x : Option Line) (a c : List (List ℕ)) → is_kept bound l x a ≡ false → is_kept bound l x (a ++ c) ≡ false
  gone-append l (Some (Hull h)) a c e =
      let p = part l h.path in
      let y : holds_path bound p a ≡ true = by_test (holds_path bound p a) (λ y. y) (λ n. absurd (false≢true (sym e ∙ ap not n))) in
      let held : holds_path bound p (a ++ c) ≡ true = holds_path-append bound p a c ∙ rw y in
      ap not held
  gone-append l (Some (Since x)) a c e = absurd (false≢true (sym e))
  gone-append l None a c e = absurd (false≢true (sym e))

  -- whether a book was compacted before it went on does not matter
  pub kept_append : (ls more : List (List ℕ)) → kept bound (kept bound ls ++ more) ≡ kept bound (ls ++ more)
  unfolding kept
  kept_append [] more = refl
  kept_append (l ∷ ls) more =
      let x = line_of bound l in
      by_test (is_kept bound l x ls)
      (λ y. rw (y, is_kept-append l x (kept bound ls) ls more (λ p. same_paths bound p ls), kept_append ls more))
      (λ n. rw (n, gone-append l x ls more n) (kept_append ls more))

  pub kept_twice : (ls : List (List ℕ)) → kept bound (kept bound ls) ≡ kept bound ls
  kept_twice ls = ap (kept bound) (sym (append-nil (kept bound ls))) ∙ kept_append ls [] ∙ ap (kept bound) (append-nil ls)

  or-false : (b : Bool) → (b || false) ≡ b
  or-false true = refl
  or-false false = refl

  is_kept-new : (l m : List ℕ) (x : Option Line) (ls : List (List ℕ)) → line_of bound l ≡ x → IsNew bound m (l ∷ ls) → is_kept bound l x (ls ++ m ∷ []) ≡ is_kept bound l x ls
  unfolding holds_path
  is_kept-new l m (Some (Hull h)) ls e new =
      let p = part l h.path in
      let own : has_path p l (line_of bound l) ≡ true = ap (has_path p l) e ∙ same_self p in
      let other : has_path p m (line_of bound m) ≡ false =
      by_test (has_path p m (line_of bound m)) (λ y. absurd (false≢true (sym (new p y) ∙ rw own))) (λ n. n) in
      let held : holds_path bound p (ls ++ m ∷ []) ≡ holds_path bound p ls = holds_path-append bound p ls (m ∷ []) ∙ rw other (or-false (holds_path bound p ls)) in
      ap not held
  is_kept-new l m (Some (Since x)) ls e new = refl
  is_kept-new l m None ls e new = refl

  new_of_cons : (l m : List ℕ) (ls : List (List ℕ)) → IsNew bound m (l ∷ ls) → IsNew bound m ls
  unfolding holds_path
  new_of_cons l m ls new p e = by_test (has_path p l (line_of bound l)) (λ y. absurd (false≢true (sym (rw y at (new p e))))) (λ n. rw n at (new p e))

  is_kept-last : (l : List ℕ) (x : Option Line) → is_kept bound l x [] ≡ true
  unfolding holds_path
  is_kept-last l (Some (Hull h)) = refl
  is_kept-last l (Some (Since x)) = refl
  is_kept-last l None = refl

  pub kept_new_line : (ls : List (List ℕ)) (m : List ℕ) → IsNew bound m ls → kept bound (ls ++ m ∷ []) ≡ kept bound ls ++ m ∷ []
  unfolding kept
  kept_new_line [] m new = kept_taken bound m [] (is_kept-last m (line_of bound m))
  kept_new_line (l ∷ ls) m new =
      let below = kept_new_line ls m (new_of_cons l m ls new) in
      let same_test = is_kept-new l m (line_of bound l) ls refl new in
      by_test (is_kept bound l (line_of bound l) ls) (λ y. rw (same_test, y, below)) (λ n. rw (same_test, n, below))
