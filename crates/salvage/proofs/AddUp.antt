-- Lines kept and rows reported add up. In order: how many newlines texts have; a row is one line (`lacking-rows_of`); each line of
-- a book is kept or dropped; the newlines of what is kept and of the report, which count lines and rows, add up to the lines of
-- the book (`kept-and-dropped-add-up`).
-- Assumes nothing.
use mathlib.Core.Path.{◌≡◌, refl, sym, ap, ◌∙◌}
use mathlib.Core.Bool.{false, cond}
use mathlib.Core.List.{List, [], ◌∷◌, ◌++◌}
use Prim.Native.Nat.{ℕ, suc, ◌+◌, ◌<◌}
use native.Mathlib.Omega.{arith}
use borrow.Author.Tests.{ne_eqb}
use lib.Dec.{eqb}
use lib.ListN.{length, length-append}
use Rattle.text.specs.Decimal.{decimal}
use Rattle.text.specs.Lines.{tab, newline, onto_first, ended_lines, left}
use Rattle.text.specs.Places.{has}
use Rattle.text.proofs.Lists.{by_test}
use Rattle.text.proofs.Decimals.{decimal_between}
use Rattle.text.proofs.FirstPlaces.{Free}
use Rattle.text.proofs.Texts.{Lacking}
use Rattle.stamps.specs.Lines.{line_of, is_good}
use Rattle.stamps.specs.Copies.{joined}
use Rattle.stamps.proofs.Listings.{ended_lines-joined}
use Rattle.stamps.proofs.ReadBack.{Free-append, has_of_Free}
use Rattle.stamps.proofs.Scans.{Free_of_between}
use Rattle.salvage.specs.Salvage.{good_lines, salvaged, Dropped, bad_lines, bad_piece, dropped, row_of, rows_of, report}
use Rattle.salvage.specs.Theorems.{newlines, line_count}
use Rattle.salvage.proofs.GoodLines.{lacking-good_lines}

-- ---- how many newlines there are
length-onto_first : (b : ℕ) (ls : List (List ℕ)) → length (onto_first b ls) ≡ length ls
length-onto_first b [] = refl
length-onto_first b (l ∷ ls) = refl

-- each newline ends a line
pub newlines-ended_lines : (s : List ℕ) → newlines s ≡ length (ended_lines s)
unfolding newlines ended_lines
newlines-ended_lines [] = refl
newlines-ended_lines (b ∷ s) =
    by_test (eqb b newline) (λ y. rw y (ap suc (newlines-ended_lines s))) (λ n. rw n (newlines-ended_lines s ∙ sym (length-onto_first b (ended_lines s))))

-- lines that hold none have one each when they are joined
pub newlines_joined : (ls : List (List ℕ)) → Lacking newline ls → newlines (joined ls) ≡ length ls
newlines_joined ls h = newlines-ended_lines (joined ls) ∙ ap length (ended_lines-joined ls h)

-- ---- the rows of the report
-- digits are no newline and no tab
pub Free-decimal : (c : ℕ) → c < 48 → (n : ℕ) → Free c (decimal n)
Free-decimal c h n = Free_of_between c 48 57 h (decimal n) (decimal_between 48 57 (omega arith) (omega arith) n)

-- a row holds no newline
pub not_has_row : (d : Dropped) → has newline (row_of d) ≡ false
not_has_row d =
    has_of_Free newline (row_of d) (
    Free-append newline (decimal d.number) (tab ∷ decimal d.size) (Free-decimal newline (omega arith) d.number) (refl, Free-decimal newline (omega arith) d.size)
    )

pub lacking-rows_of : (ds : List Dropped) → Lacking newline (rows_of ds)
unfolding rows_of
lacking-rows_of [] = tt
lacking-rows_of (d ∷ ds) = (not_has_row d, lacking-rows_of ds)

length-rows_of : (ds : List Dropped) → length (rows_of ds) ≡ length ds
unfolding rows_of
length-rows_of [] = refl
length-rows_of (d ∷ ds) = ap suc (length-rows_of ds)

-- ---- each line is kept or dropped
length-bad_piece : (n : ℕ) (s : List ℕ) → length (bad_piece n s) ≡ cond (eqb (length s) 0) 0 1
length-bad_piece n [] = refl
length-bad_piece n (b ∷ s) = rw (ne_eqb (length (b ∷ s)) 0 (λ e. omega arith))

module _ (bound : ℕ) where
  length-kept-and-dropped : (n : ℕ) (ls : List (List ℕ)) → length (good_lines bound ls) + length (bad_lines bound n ls) ≡ length ls
  unfolding good_lines bad_lines
  length-kept-and-dropped n [] = refl
  length-kept-and-dropped n (l ∷ ls) =
      let below = length-kept-and-dropped (suc n) ls in
      by_test (is_good (line_of bound l)) (λ y. rw y (omega (arith, below))) (λ b. rw b (omega (arith, below)))

  -- lines kept and rows reported, counted by their newlines, are as many as the lines of the book
  pub kept-and-dropped-add-up : (book : List ℕ) → newlines (salvaged bound book) + newlines (report bound book) ≡ line_count book
  unfolding salvaged report dropped line_count
  kept-and-dropped-add-up book =
      let ls = ended_lines book in
      let bad = bad_lines bound 1 ls in
      let piece = bad_piece (suc (length ls)) (left book) in
      omega (
        arith,
        newlines_joined (good_lines bound ls) (lacking-good_lines bound ls),
        newlines_joined (rows_of (bad ++ piece)) (lacking-rows_of (bad ++ piece)),
        length-rows_of (bad ++ piece),
        length-append bad piece,
        length-kept-and-dropped 1 ls,
        length-bad_piece (suc (length ls)) (left book),
        newlines-ended_lines book,
      )
