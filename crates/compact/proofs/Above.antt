-- What is above a line. In order: a line that goes is one of `hull`; a line stays at its place exactly if it is kept (`kept_exactly_if`), below the
-- `since` lines that it was below (`same_since_lines_above`) and below no more `hull` lines (`fewer_hull_lines_above`); every `since` line stays
-- (`all_since_lines_kept`).
-- Assumes nothing.
use Rattle.std.specs.Prelude.{None, Option, Some}
use mathlib.Core.Path.{◌≡◌, refl, sym, ap, ◌∙◌}
use mathlib.Core.Bool.{true, false, cond, false≢true}
use mathlib.Core.List.{List, [], ◌∷◌, ◌++◌, append-nil}
use Prim.Native.Nat.{ℕ, ◌≤◌}
use native.Mathlib.Omega.{arith}
use lib.ListN.{length}
use Rattle.text.proofs.Lists.{by_test}
use Rattle.stamps.specs.Lines.{line_of}
use Rattle.stamps.specs.Theorems.{is_hull_line, is_since_line, hulls_of}
use Rattle.stamps.specs.declared.line.Line.{Line}
use Rattle.stamps.specs.declared.line.Line.TheVariants.{Hull, Since}
use Rattle.compact.specs.Compact.{is_kept, kept}
use Rattle.compact.specs.Theorems.{kept_above, sinces_of}

module _ (bound : ℕ) where
  -- ---- `since` lines
  -- a line that goes is one of `hull`
  pub hull_of_gone : (l : List ℕ) (x : Option Line) (ls : List (List ℕ)) → is_kept bound l x ls ≡ false → is_hull_line x ≡ true
  hull_of_gone l (Some (Hull h)) ls e = refl
  hull_of_gone l (Some (Since x)) ls e = absurd (false≢true (sym e))
  hull_of_gone l None ls e = absurd (false≢true (sym e))

  not-since_of_hull : (x : Option Line) → is_hull_line x ≡ true → is_since_line x ≡ false
  not-since_of_hull (Some (Hull h)) e = refl
  not-since_of_hull (Some (Since x)) e = absurd (false≢true e)
  not-since_of_hull None e = absurd (false≢true e)

  not-since_of_gone : (l : List ℕ) (ls : List (List ℕ)) → is_kept bound l (line_of bound l) ls ≡ false → is_since_line (line_of bound l) ≡ false
  not-since_of_gone l ls e = not-since_of_hull (line_of bound l) (hull_of_gone l (line_of bound l) ls e)

  -- the book cut anywhere: the lines that are kept above the cut, and those below it
  kept_cut : (above below : List (List ℕ)) → kept bound (above ++ below) ≡ kept_above bound above below ++ kept bound below
  unfolding kept kept_above
  kept_cut [] below = refl
  kept_cut (l ∷ above) below =
      by_test (is_kept bound l (line_of bound l) (above ++ below)) (λ y. rw (y, kept_cut above below)) (λ n. rw (n, kept_cut above below))

  -- a line stays exactly if it is kept above those below it, at its place
  pub kept_exactly_if : (above : List (List ℕ)) (l : List ℕ) (below : List (List ℕ))
      → kept bound (above ++ l ∷ below) ≡ kept_above bound above (l ∷ below) ++ (cond (is_kept bound l (line_of bound l) below) (l ∷ []) [] ++ kept bound below)
  unfolding kept
  kept_exactly_if above l below =
      kept_cut above (l ∷ below) ∙ ap (λ (v : List (List ℕ)). kept_above bound above (l ∷ below) ++ v) (by_test (is_kept bound l (line_of bound l) below) (λ y. rw y) (λ n. rw n))

  -- above it are the `since` lines that were above it
  pub same_since_lines_above : (above below : List (List ℕ)) → sinces_of bound (kept_above bound above below) ≡ sinces_of bound above
  unfolding kept_above sinces_of
  same_since_lines_above [] below = refl
  same_since_lines_above (l ∷ above) below =
      by_test (is_kept bound l (line_of bound l) (above ++ below)) (λ y. rw (y, same_since_lines_above above below))
      (λ n. rw (n, not-since_of_gone l (above ++ below) n) (same_since_lines_above above below))

  pub all_since_lines_kept : (ls : List (List ℕ)) → sinces_of bound (kept bound ls) ≡ sinces_of bound ls
  unfolding kept
  all_since_lines_kept ls =
      ap (sinces_of bound) (ap (kept bound) (sym (append-nil ls)) ∙ kept_cut ls [] ∙ append-nil (kept_above bound ls [])) ∙ same_since_lines_above ls []

  -- and no `hull` line that was not above it
  pub fewer_hull_lines_above : (above below : List (List ℕ)) → length (hulls_of bound (kept_above bound above below)) ≤ length (hulls_of bound above)
  unfolding kept_above hulls_of
  fewer_hull_lines_above [] below = omega arith
  fewer_hull_lines_above (l ∷ above) below =
      let h = fewer_hull_lines_above above below in
      by_test (is_kept bound l (line_of bound l) (above ++ below))
      (λ y. by_test (is_hull_line (line_of bound l)) (λ e. rw (y, e) (omega (arith, h))) (λ e. rw (y, e) h))
      (λ n. rw (n, hull_of_gone l (line_of bound l) (above ++ below) n) (omega (arith, h)))
