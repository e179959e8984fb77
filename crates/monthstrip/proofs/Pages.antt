-- A page that is written from its end to its front: what it holds from a place on, after each write in front of that place. In order:
-- one day more; a row; one row more; the title; the page. Then lengths: of a row, of a month's name, of a heading, of rows, of a title.
-- Assumes nothing.
use mathlib.Core.Path.{◌≡◌, refl, ◌∙◌}
use mathlib.Core.List.{List, [], ◌∷◌, ◌++◌, append_assoc, append-nil}
use Prim.Native.Nat.{ℕ, zero, suc, ◌+◌, ◌-◌, ◌*◌, ◌/◌, ◌≤◌, ◌<◌}
use native.Mathlib.Nat.{min-le_left}
use native.Mathlib.Omega.{arith}
use mathlib.Core.Bool.{Bool, true, ◌&&◌}
use borrow.Author.Tests.{ne_eqb, leb-true}
use lib.Dec.{eqb, leb}
use lib.IntN.{ℤ}
use lib.ListN.{length, length-append, length-take, length-replicate, take, drop, get_or, replicate}
use lib.Seq.{drop-drop, drop-length}
use Rattle.text.specs.Bytes.{is_space}
use Rattle.text.specs.Words.{words, pieces, full}
use Rattle.text.specs.Decimal.{signed}
use Rattle.text.specs.Lines.{newline}
use Rattle.text.proofs.Lists.{both, by_test, drop-sub-one}
use Rattle.strip.specs.declared.Strip.{Strip}
use Rattle.monthstrip.specs.Page.{blank, cell, cells, row, rows, day_names, month_names, month_name, heading, title, page_of}

-- ---- what is written
-- no day yet, and one day more
pub cells_none : (days u : List ℕ) → u ≡ cells (drop (length days) days) ++ u
unfolding cells
cells_none days u = rw drop-length

pub cell_more : (days : List ℕ) (i : ℕ) (u v w x : List ℕ) → 0 < i → i ≤ length days
    → v ≡ cells (drop i days) ++ u → w ≡ cell (get_or days (i - 1) 0) ++ v → x ≡ blank ∷ w → x ≡ cells (drop (i - 1) days) ++ u
unfolding cells
cell_more days i u v w x p h e f g = rw (drop-sub-one days i p h, g, f, e)

-- a row that is printed
pub row_put : (week : ℕ) (days u v w x : List ℕ) → (week ≡ 0 → ⊥) → v ≡ newline ∷ u → w ≡ cells days ++ v → x ≡ cell week ++ w → x ≡ row week days ++ u
unfolding row
row_put week days u v w x h e f g = rw (ne_eqb week 0 h, g, f, e) (simp append_assoc)

-- no row yet, and one row more
pub rows_none : (weeks days u : List ℕ) → u ≡ rows (drop (length weeks) weeks) days ++ u
unfolding rows
rows_none weeks days u = rw drop-length

pub row_more : (weeks days : List ℕ) (i k : ℕ) (u v w : List ℕ) → 0 < i → i ≤ length weeks → k ≡ 7
    → v ≡ rows (drop i weeks) (drop (7 * i) days) ++ u → w ≡ row (get_or weeks (i - 1) 0) (take k (drop (7 * (i - 1)) days)) ++ v
    → w ≡ rows (drop (i - 1) weeks) (drop (7 * (i - 1)) days) ++ u
unfolding rows
row_more weeks days i k u v w p h s e f =
    let n : 7 * (i - 1) + 7 ≡ 7 * i = omega arith in
    rw (drop-sub-one weeks i p h, drop-drop 7 (7 * (i - 1)) days, n, f, s, e) (simp append_assoc)

pub title_put : (year : ℤ) (m k : ℕ) (u v w x y z : List ℕ) → k ≡ (23 - length (heading year m)) / 2
    → v ≡ newline ∷ u → w ≡ signed year ++ v → x ≡ blank ∷ w → y ≡ month_name m ++ x → z ≡ replicate k blank ++ y → z ≡ title year m ++ u
unfolding title
title_put year m k u v w x y z n e f g h i = rw (i, h, g, f, e, n) (simp append_assoc)

pub page_put : (year : ℤ) (m : ℕ) (s : Strip) (u v w x : List ℕ) → u ≡ [] → v ≡ rows s.weeks s.days ++ u → w ≡ day_names ++ v → x ≡ title year m ++ w → x ≡ page_of year m s
unfolding page_of
page_put year m s u v w x n e f g = rw (g, f, e, n) (simp (append_assoc, append-nil))

-- ---- lengths
length-cells : (days : List ℕ) → length (cells days) ≡ 3 * length days
unfolding cells
length-cells [] = refl
length-cells (d ∷ days) = omega (arith, length-cells days)

-- a row that is printed has 23 columns and a newline
pub length-row : (week : ℕ) (days : List ℕ) → (week ≡ 0 → ⊥) → length days ≡ 7 → length (row week days) ≡ 24
unfolding row
length-row week days h k = rw (ne_eqb week 0 h) (omega (arith, length-append (cell week ++ cells days) (newline ∷ []), length-cells days))

-- no word is longer than n
abbrev narrow : ℕ → List (List ℕ) → Bool
narrow n [] = true
narrow n (w ∷ l) = leb (length w) n && narrow n l

length-get_or-le : (n : ℕ) (l : List (List ℕ)) (k : ℕ) → narrow n l ≡ true → length (get_or l k []) ≤ n
length-get_or-le n [] k e = omega arith
length-get_or-le n (w ∷ l) zero e = leb-true (length w) n (both (leb (length w) n) (narrow n l) e).0
length-get_or-le n (w ∷ l) (suc k) e = length-get_or-le n l k (both (leb (length w) n) (narrow n l) e).1

-- September is the longest
pub length-month_name-le : (m : ℕ) → length (month_name m) ≤ 9
unfolding month_name words pieces full is_space
length-month_name-le m = length-get_or-le 9 month_names (m - 1) refl

pub length-heading : (year : ℤ) (m : ℕ) → length (heading year m) ≡ length (month_name m) + (1 + length (signed year))
length-heading year m = length-append (month_name m) (blank ∷ signed year) ∙ omega arith

length-row-le : (week : ℕ) (days : List ℕ) → length days ≤ 7 → length (row week days) ≤ 24
unfolding row
length-row-le week days k =
    by_test (eqb week 0) (λ e. rw e (omega arith))
    (λ e. rw e (omega (arith, length-append (cell week ++ cells days) (newline ∷ []), length-cells days)))

pub length-rows-le : (weeks days : List ℕ) → length (rows weeks days) ≤ 24 * length weeks
unfolding rows
length-rows-le [] days = omega arith
length-rows-le (w ∷ weeks) days =
    let seven : length (take 7 days) ≤ 7 = omega (arith, length-take 7 days, min-le_left 7 (length days)) in
    omega (arith, length-append (row w (take 7 days)) (rows weeks (drop 7 days)), length-row-le w (take 7 days) seven, length-rows-le weeks (drop 7 days))

pub length-title-le : (year : ℤ) (m : ℕ) → length (signed year) ≤ 20 → length (title year m) ≤ 31
unfolding title
length-title-le year m h =
    let n = (23 - length (heading year m)) / 2 in
    omega (arith, length-append (replicate n blank ++ heading year m) (newline ∷ []), length-append (replicate n blank) (heading year m), length-replicate n blank, length-heading year m, length-month_name-le m)
