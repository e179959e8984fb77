-- RULES 13.19: compacting a book by two bounds on the pairs of a relative date, the second at least the first. A book that is good by the first
-- is compacted to the same bytes by the second (`compacted_stays`), and the call returns the same (`compact_stays`).
-- Assumes nothing.
use Rattle.std.specs.Prelude.{None, Option, Some, Ok, Result}
use mathlib.Core.Path.{◌≡◌, refl, sym, ap, ◌∙◌}
use mathlib.Core.Bool.{true}
use mathlib.Core.List.{List, [], ◌∷◌}
use Prim.Native.Nat.{ℕ, ◌≤◌}
use Rattle.text.specs.Lines.{ended_lines}
use Rattle.text.proofs.Lists.{both}
use Rattle.stamps.specs.Lines.{line_of, is_good}
use Rattle.stamps.specs.Book.{judged, check_of}
use Rattle.stamps.specs.Copies.{joined, copied_at}
use Rattle.stamps.specs.Theorems.{are_good}
use Rattle.stamps.specs.declared.line.Line.{Line}
use Rattle.stamps.specs.declared.line.Line.TheVariants.{Hull, Since}
use Rattle.stamps.proofs.Listings.{good_book_iff}
use Rattle.stamps.proofs.Bounds.{good_line_stays, good_book_stays}
use Rattle.compact.specs.Compact.{holds_path, is_kept, kept, compacted, compact_of}
use Rattle.stamps.specs.declared.book.BookError.{BookError}

module _ (a b : ℕ) (within : a ≤ b) where
  holds_path-stays : (p : List ℕ) (ls : List (List ℕ)) → are_good (judged a ls) ≡ true → holds_path b p ls ≡ holds_path a p ls
  unfolding judged are_good holds_path
  holds_path-stays p [] g = refl
  holds_path-stays p (l ∷ ls) g =
      let h = both (is_good (line_of a l)) (are_good (judged a ls)) g in
      rw (good_line_stays a b within l h.0, holds_path-stays p ls h.1)

  is_kept-stays : (l : List ℕ) (x : Option Line) (ls : List (List ℕ)) → are_good (judged a ls) ≡ true → is_kept b l x ls ≡ is_kept a l x ls
  is_kept-stays l (Some (Hull h)) ls g = rw (holds_path-stays _ ls g)
  is_kept-stays l (Some (Since x)) ls g = refl
  is_kept-stays l None ls g = refl

  kept_stays : (ls : List (List ℕ)) → are_good (judged a ls) ≡ true → kept b ls ≡ kept a ls
  unfolding judged are_good kept
  kept_stays [] g = refl
  kept_stays (l ∷ ls) g =
      let h = both (is_good (line_of a l)) (are_good (judged a ls)) g in
      rw (good_line_stays a b within l h.0, is_kept-stays l (line_of a l) ls h.1, kept_stays ls h.1)

  module _ (book : List ℕ) (good : check_of a book ≡ Ok tt) where
    pub compacted_stays : compacted b book ≡ compacted a book
    unfolding compacted
    compacted_stays = ap joined (kept_stays (ended_lines book) ((good_book_iff a book).0 good).2)

    pub compact_stays : (room : List ℕ) → compact_of b book room ≡ compact_of a book room
    compact_stays room =
        (λ i. copied_at (good_book_stays a b within book good i) (compacted_stays i) room) ∙ sym (ap (λ (c : Result (Unit {0}) BookError). copied_at c (compacted a book) room) good)
