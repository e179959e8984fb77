-- The good lines of a book. In order: the lines that are kept are good; they are a good book (`salvaged_is_a_good_book`); a good book comes out
-- the same (`good_book_comes_out_the_same`); the report is empty exactly if the book is good (`empty_report_iff_good`); salvaging
-- twice is salvaging once (`salvaging_twice_is_once`, `second_report_is_empty`).
-- Assumes nothing.
use Rattle.std.specs.Prelude.{Ok}
use mathlib.Core.Path.{◌≡◌, refl, sym, ap, ◌∙◌}
use mathlib.Core.Bool.{true}
use mathlib.Core.Logic.{◌↔◌}
use mathlib.Core.List.{List, [], ◌∷◌, ◌++◌}
use Prim.Native.Nat.{ℕ, suc, ◌+◌, ◌≤◌}
use native.Mathlib.Omega.{arith}
use lib.ListN.{length, length-append}
use Rattle.text.specs.Lines.{newline, ended_lines, left}
use Rattle.text.proofs.Lists.{by_test, both}
use Rattle.text.proofs.Texts.{Lacking}
use Rattle.stamps.specs.Lines.{line_of, is_good}
use Rattle.stamps.specs.Book.{max_book, judged, check_of}
use Rattle.stamps.specs.Copies.{joined}
use Rattle.stamps.specs.Theorems.{are_good}
use Rattle.stamps.proofs.Listings.{good_book_iff, lacking_of_good, ended_lines-joined, left_joined}
use Rattle.stamps.proofs.WholeTexts.{joined_of_whole}
use Rattle.salvage.specs.Salvage.{good_lines, salvaged, Dropped, bad_lines, bad_piece, dropped, last_number, row_of, rows_of, report}
use Rattle.salvage.proofs.Rooms.{length-salvaged-le}

-- ---- the lines that are kept
module _ (bound : ℕ) where
  -- they are good
  pub good-good_lines : (ls : List (List ℕ)) → are_good (judged bound (good_lines bound ls)) ≡ true
  unfolding good_lines judged are_good
  good-good_lines [] = refl
  good-good_lines (l ∷ ls) = let below = good-good_lines ls in by_test (is_good (line_of bound l)) (λ y. rw (y, y) below) (λ n. rw n below)

  -- and hold no newline
  pub lacking-good_lines : (ls : List (List ℕ)) → Lacking newline (good_lines bound ls)
  lacking-good_lines ls = lacking_of_good bound (good_lines bound ls) (good-good_lines ls)

  -- they are the lines of what is kept
  pub ended_lines-salvaged : (book : List ℕ) → ended_lines (salvaged bound book) ≡ good_lines bound (ended_lines book)
  unfolding salvaged
  ended_lines-salvaged book = ended_lines-joined (good_lines bound (ended_lines book)) (lacking-good_lines (ended_lines book))

  -- which has no last piece
  pub left_salvaged : (book : List ℕ) → left (salvaged bound book) ≡ []
  unfolding salvaged
  left_salvaged book = left_joined (good_lines bound (ended_lines book)) (lacking-good_lines (ended_lines book))

  -- and all of whose lines are good
  good_salvaged : (book : List ℕ) → are_good (judged bound (ended_lines (salvaged bound book))) ≡ true
  good_salvaged book = ap (λ (ls : List (List ℕ)). are_good (judged bound ls)) (ended_lines-salvaged book) ∙ good-good_lines (ended_lines book)

  -- what is kept of a book is a good book
  pub salvaged_is_a_good_book : (book : List ℕ) → length book ≤ max_book → check_of bound (salvaged bound book) ≡ Ok tt
  salvaged_is_a_good_book book h = (good_book_iff bound (salvaged bound book)).1 (omega (arith, length-salvaged-le bound book), left_salvaged book, good_salvaged book)

  -- ---- good lines
  -- all of them are kept
  pub good_lines_of_good : (ls : List (List ℕ)) → are_good (judged bound ls) ≡ true → good_lines bound ls ≡ ls
  unfolding good_lines judged are_good
  good_lines_of_good [] g = refl
  good_lines_of_good (l ∷ ls) g =
      let p = both (is_good (line_of bound l)) (are_good (judged bound ls)) g in
      rw p.0 (ap (λ (t : List (List ℕ)). l ∷ t) (good_lines_of_good ls p.1))

  -- none of them is dropped
  pub bad_lines_of_good : (n : ℕ) (ls : List (List ℕ)) → are_good (judged bound ls) ≡ true → bad_lines bound n ls ≡ []
  unfolding bad_lines judged are_good
  bad_lines_of_good n [] g = refl
  bad_lines_of_good n (l ∷ ls) g = let p = both (is_good (line_of bound l)) (are_good (judged bound ls)) g in rw p.0 (bad_lines_of_good (suc n) ls p.1)

  module _ (book : List ℕ) (whole : left book ≡ []) (good : are_good (judged bound (ended_lines book)) ≡ true) where
    pub salvaged_of_good : salvaged bound book ≡ book
    unfolding salvaged
    salvaged_of_good = ap joined (good_lines_of_good (ended_lines book) good) ∙ joined_of_whole book whole

    pub dropped_of_good : dropped bound book ≡ []
    unfolding dropped
    dropped_of_good = λ i. bad_lines_of_good 1 (ended_lines book) good i ++ bad_piece (suc (length (ended_lines book))) (whole i)

  report_of_none : (book : List ℕ) → dropped bound book ≡ [] → report bound book ≡ []
  unfolding report rows_of joined
  report_of_none book e = ap (λ (ds : List Dropped). joined (rows_of ds)) e

  -- a good book comes out as it was, with an empty report and no last bad line
  pub good_book_comes_out_the_same : (book : List ℕ) → check_of bound book ≡ Ok tt → (salvaged bound book ≡ book) × (report bound book ≡ []) × (last_number 0 (dropped bound book) ≡ 0)
  unfolding last_number
  good_book_comes_out_the_same book e =
      let p = (good_book_iff bound book).0 e in
      let none = dropped_of_good book p.1 p.2 in
      (salvaged_of_good book p.1 p.2, report_of_none book none, ap (last_number 0) none)

-- ---- an empty report
none_of_rows : (ds : List Dropped) → joined (rows_of ds) ≡ [] → ds ≡ []
unfolding rows_of joined
none_of_rows [] e = refl
none_of_rows (d ∷ ds) e = absurd (omega (arith, ap length e, length-append (row_of d) (newline ∷ joined (rows_of ds))))

whole_of_bad_piece : (n : ℕ) (s : List ℕ) → length (bad_piece n s) ≡ 0 → s ≡ []
whole_of_bad_piece n [] e = refl
whole_of_bad_piece n (b ∷ s) e = absurd (omega arith)

module _ (bound : ℕ) where
  -- nothing was dropped then
  pub none_of_report : (book : List ℕ) → report bound book ≡ [] → dropped bound book ≡ []
  unfolding report
  none_of_report book e = none_of_rows (dropped bound book) e

  good_of_bad_lines : (n : ℕ) (ls : List (List ℕ)) → length (bad_lines bound n ls) ≡ 0 → are_good (judged bound ls) ≡ true
  unfolding bad_lines judged are_good
  good_of_bad_lines n [] e = refl
  good_of_bad_lines n (l ∷ ls) e =
      by_test (is_good (line_of bound l)) (λ y. rw y (good_of_bad_lines (suc n) ls (rw y at e))) (λ b. let f = rw b at e in absurd (omega (arith, f)))

  -- so every line is good, and there is no last piece
  pub good_of_none : (book : List ℕ) → dropped bound book ≡ [] → (left book ≡ []) × (are_good (judged bound (ended_lines book)) ≡ true)
  unfolding dropped
  good_of_none book e =
      let ls = ended_lines book in
      let bad = bad_lines bound 1 ls in
      let piece = bad_piece (suc (length ls)) (left book) in
      let lengths : length bad + length piece ≡ 0 = sym (length-append bad piece) ∙ ap length e in
      (whole_of_bad_piece (suc (length ls)) (left book) (omega arith), good_of_bad_lines 1 ls (omega arith))

  -- the report is empty exactly if the book is good
  pub empty_report_iff_good : (book : List ℕ) → length book ≤ max_book → (report bound book ≡ []) ↔ (check_of bound book ≡ Ok tt)
  empty_report_iff_good book h = (
    λ e. let p = good_of_none book (none_of_report book e) in (good_book_iff bound book).1 (h, p.0, p.1),
    λ e. (good_book_comes_out_the_same bound book e).1,
  )

  -- ---- salvaging twice
  -- what is kept of a book is kept as it is by a second salvage
  pub salvaging_twice_is_once : (book : List ℕ) → salvaged bound (salvaged bound book) ≡ salvaged bound book
  salvaging_twice_is_once book = salvaged_of_good bound (salvaged bound book) (left_salvaged bound book) (good_salvaged bound book)

  -- whose report is empty
  pub second_report_is_empty : (book : List ℕ) → report bound (salvaged bound book) ≡ []
  second_report_is_empty book = report_of_none bound (salvaged bound book) (dropped_of_good bound (salvaged bound book) (left_salvaged bound book) (good_salvaged bound book))
