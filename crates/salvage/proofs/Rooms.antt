-- How long rooms must be. In order: a room as long as the book is long enough for the good lines (`length-salvaged-le`); the most
-- bytes that a report on k bytes takes, its rows split, and numbers of one width; the most for a book (`most_rows-65536`); no
-- report is longer (`report-le-most`, `report-le-513182`), nor longer than 8 bytes for each byte of the book
-- (`length-report-le`); and 65,536 newlines reach the most (`most_is_reached`).
-- Assumes nothing.
use mathlib.Core.Path.{◌≡◌, refl, sym, ap, ◌∙◌}
use mathlib.Core.Bool.{false}
use mathlib.Core.List.{List, [], ◌∷◌, ◌++◌, append-nil}
use Prim.Native.Nat.{ℕ, zero, suc, ◌+◌, ◌-◌, ◌*◌, ◌/◌, ◌^◌, ◌≤◌, ◌<◌}
use native.Mathlib.Nat.{suc-mul}
use native.Mathlib.Omega.{arith}
use borrow.Author.Tests.{ltb-true, ltb-false}
use lib.Dec.{ltb}
use lib.ListN.{length, drop, replicate, length-append, length-replicate}
use lib.Seq.{drop-length}
use Rattle.text.specs.Bytes.{same}
use Rattle.text.specs.Decimal.{decimal}
use Rattle.text.specs.Lines.{tab, newline, ended_lines, taken_by, left}
use Rattle.text.specs.Places.{run, first_place, has}
use Rattle.text.proofs.Lists.{by_test}
use Rattle.text.proofs.Decimals.{length-decimal_of_lt, length-decimal_of_le, length-decimal-pos, length-decimal-le, length-decimal_between}
use Rattle.stamps.specs.Lines.{line_of, is_good}
use Rattle.stamps.specs.Book.{max_book}
use Rattle.stamps.specs.Copies.{joined}
use Rattle.stamps.proofs.Books.{length-joined, joined-ended_lines, taken_by-le}
use Rattle.salvage.specs.Salvage.{good_lines, salvaged, Dropped, bad_lines, bad_piece, dropped, row_of, rows_of, report}
use Rattle.salvage.specs.Theorems.{most_rows}

-- ---- the good lines
taken_by-good_lines-le : (bound : ℕ) (ls : List (List ℕ)) → taken_by (good_lines bound ls) ≤ taken_by ls
unfolding good_lines taken_by
taken_by-good_lines-le bound [] = omega arith
taken_by-good_lines-le bound (l ∷ ls) =
    let below = taken_by-good_lines-le bound ls in
    by_test (is_good (line_of bound l)) (λ y. rw y (omega (arith, below))) (λ n. rw n (omega (arith, below)))

-- the good lines have at most as many bytes as the book
pub length-salvaged-le : (bound : ℕ) (book : List ℕ) → length (salvaged bound book) ≤ length book
unfolding salvaged
length-salvaged-le bound book =
    let ls = ended_lines book in
    omega (arith, length-joined (good_lines bound ls), taken_by-good_lines-le bound ls, taken_by-le book)

-- ---- the length of a decimal
-- it never falls as the number grows
length-decimal-le_of_le : (k n m : ℕ) → m ≤ k → n ≤ m → length (decimal n) ≤ length (decimal m)
length-decimal-le_of_le zero n m h i = omega (arith, length-decimal_of_lt n (omega arith), length-decimal-pos m)
length-decimal-le_of_le (suc k) n m h i =
    by_test (ltb n 10) (λ e. omega (arith, length-decimal_of_lt n (ltb-true n 10 e), length-decimal-pos m))
    (λ e.
    let a : 10 ≤ n = ltb-false n 10 e in
    let b : 10 ≤ m = omega arith in
    let below : length (decimal (n / 10)) ≤ length (decimal (m / 10)) = length-decimal-le_of_le k (n / 10) (m / 10) (omega arith) (omega arith) in
    omega (arith, length-decimal_of_le n a, length-decimal_of_le m b))

-- a number from 1 on has at most as many digits as its value
length-decimal-le-self : (k n : ℕ) → n ≤ k → 0 < n → length (decimal n) ≤ n
length-decimal-le-self zero n h p = absurd (omega arith)
length-decimal-le-self (suc k) n h p =
    by_test (ltb n 10) (λ e. omega (arith, length-decimal_of_lt n (ltb-true n 10 e)))
    (λ e.
    let a : 10 ≤ n = ltb-false n 10 e in
    let below : length (decimal (n / 10)) ≤ n / 10 = length-decimal-le-self k (n / 10) (omega arith) (omega arith) in
    omega (arith, length-decimal_of_le n a))

-- so the length of a line has at most k digits if the line has at most k bytes, where k is from 1 on
length-decimal_size-le : (size k : ℕ) → 0 < k → size ≤ k → length (decimal size) ≤ k
length-decimal_size-le size k p h =
    by_test (ltb size 1) (λ e. omega (arith, length-decimal_of_lt size (omega (arith, ltb-true size 1 e)), ltb-true size 1 e))
    (λ e. omega (arith, length-decimal-le-self size size (omega arith) (omega (arith, ltb-false size 1 e))))

-- ---- the most bytes of a report
-- the rows of the first a bytes, and of the b bytes behind them
pub most_rows-add : (n a b : ℕ) → most_rows n (a + b) ≡ most_rows n a + most_rows (n + a) b
unfolding most_rows
most_rows-add n zero b =
    let e : 0 + b ≡ b = omega arith in
    let f : n ≡ n + 0 = omega arith in
    let g : most_rows n b ≡ 0 + most_rows n b = omega arith in
    ap (most_rows n) e ∙ g ∙ ap (λ (m : ℕ). 0 + most_rows m b) f
most_rows-add n (suc a) b =
    let e : suc a + b ≡ suc (a + b) = omega arith in
    let f : suc n + a ≡ n + suc a = omega arith in
    let below : most_rows (suc n) (a + b) ≡ most_rows (suc n) a + most_rows (n + suc a) b = most_rows-add (suc n) a b ∙ ap (λ (m : ℕ). most_rows (suc n) a + most_rows m b) f in
    ap (most_rows n) e ∙ omega (arith, below)

-- larger numbers take no fewer bytes
most_rows-le_of_le : (n m k : ℕ) → n ≤ m → most_rows n k ≤ most_rows m k
unfolding most_rows
most_rows-le_of_le n m zero h = omega arith
most_rows-le_of_le n m (suc k) h = omega (arith, length-decimal-le_of_le m n m (omega arith) h, most_rows-le_of_le (suc n) (suc m) k (omega arith))

-- more bytes take no fewer bytes
pub most_rows-mono : (n a b : ℕ) → a ≤ b → most_rows n a ≤ most_rows n b
most_rows-mono n a b h =
    let e : a + (b - a) ≡ b = omega arith in
    omega (arith, ap (most_rows n) e, most_rows-add n a (b - a))

le-most_rows : (n k : ℕ) → k ≤ most_rows n k
unfolding most_rows
le-most_rows n zero = omega arith
le-most_rows n (suc k) = omega (arith, le-most_rows (suc n) k)

-- k numbers of w + 1 digits each
pub most_rows_of_width : (w n k : ℕ) → 10 ^ w ≤ n → n + k ≤ 10 ^ suc w → most_rows n k ≡ k * (w + 4)
unfolding most_rows
most_rows_of_width w n zero h i = omega arith
most_rows_of_width w n (suc k) h i =
    let d : length (decimal n) ≡ suc w = length-decimal_between w n h (omega arith) in
    let below : most_rows (suc n) k ≡ k * (w + 4) = most_rows_of_width w (suc n) k (omega arith) (omega arith) in
    omega (arith, suc-mul k (w + 4))

-- 9 numbers of one digit, 90 of two, 900 of three, 9000 of four and 55,537 of five
pub most_rows-65536 : most_rows 1 65536 ≡ 513182
most_rows-65536 =
    omega (
      arith,
      most_rows-add 1 9 65527,
      most_rows-add 10 90 65437,
      most_rows-add 100 900 64537,
      most_rows-add 1000 9000 55537,
      most_rows_of_width 0 1 9 (omega arith) (omega arith),
      most_rows_of_width 1 10 90 (omega arith) (omega arith),
      most_rows_of_width 2 100 900 (omega arith) (omega arith),
      most_rows_of_width 3 1000 9000 (omega arith) (omega arith),
      most_rows_of_width 4 10000 55537 (omega arith) (omega arith),
    )

-- numbers of at most five digits
most_rows-le-eight : (n k : ℕ) → n + k ≤ 100000 → most_rows n k ≤ 8 * k
unfolding most_rows
most_rows-le-eight n zero h = omega arith
most_rows-le-eight n (suc k) h = omega (arith, length-decimal-le 4 n (omega arith), most_rows-le-eight (suc n) k (omega arith))

-- ---- the rows of a report
-- a row with its newline, for a line that takes k bytes
row-le : (n size k : ℕ) → 0 < k → size ≤ k → length (row_of (record { number = n; size = size })) + 1 ≤ most_rows n k
unfolding most_rows
row-le n size zero p h = absurd (omega arith)
row-le n size (suc k) p h = omega (arith, length-append (decimal n) (tab ∷ decimal size), length-decimal_size-le size (suc k) p h, le-most_rows (suc n) k)

-- a last piece, and nothing behind it
piece-le : (n : ℕ) (piece : List ℕ) → length (joined (rows_of (bad_piece n piece))) ≤ most_rows n (length piece)
unfolding rows_of joined
piece-le n [] = omega arith
piece-le n (b ∷ s) =
    let row = row_of (record { number = n; size = length (b ∷ s) }) in
    omega (arith, length-append row (newline ∷ []), row-le n (length (b ∷ s)) (length (b ∷ s)) (omega arith) (omega arith))

module _ (bound : ℕ) where
  -- all of the rows, where m is the number of the last piece
  rows-le : (n m : ℕ) (ls : List (List ℕ)) (piece : List ℕ) → m ≡ n + length ls
      → length (joined (rows_of (bad_lines bound n ls ++ bad_piece m piece))) ≤ most_rows n (taken_by ls + length piece)
  unfolding bad_lines rows_of joined taken_by
  rows-le n m [] piece e =
      let first : m ≡ n = omega arith in
      let whole : 0 + length piece ≡ length piece = omega arith in
      rw (whole, first) (piece-le n piece)
  rows-le n m (l ∷ ls) piece e =
      let size = length l + 1 in
      let others = taken_by ls + length piece in
      let row = row_of (record { number = n; size = length l }) in
      let rows = joined (rows_of (bad_lines bound (suc n) ls ++ bad_piece m piece)) in
      let whole : size + taken_by ls + length piece ≡ size + others = omega arith in
      let below : length rows ≤ most_rows (n + size) others =
      omega (arith, rows-le (suc n) m ls piece (omega arith), most_rows-le_of_le (suc n) (n + size) others (omega arith)) in
      rw (whole, most_rows-add n size others)
      (by_test (is_good (line_of bound l)) (λ y. rw y (omega (arith, below)))
      (λ b. rw b (omega (arith, below, length-append row (newline ∷ rows), row-le n (length l) size (omega arith) (omega arith)))))

  -- a report has at most the bytes of a report on as many empty lines
  pub report-le-most : (book : List ℕ) → length (report bound book) ≤ most_rows 1 (length book)
  unfolding report dropped
  report-le-most book =
      let ls = ended_lines book in
      let whole : taken_by ls + length (left book) ≡ length book = omega (arith, ap length (joined-ended_lines book), length-append (joined ls) (left book), length-joined ls) in
      rw whole at (rows-le 1 (suc (length ls)) ls (left book) (omega arith))

  -- 513,182 bytes are enough for the report on any book
  pub report-le-513182 : (book : List ℕ) → length book ≤ max_book → length (report bound book) ≤ 513182
  report-le-513182 book h = omega (arith, report-le-most book, most_rows-mono 1 (length book) 65536 h, most_rows-65536)

  -- 8 bytes for each byte of the book are enough for the report
  pub length-report-le : (book : List ℕ) → length book ≤ max_book → length (report bound book) ≤ 8 * length book
  length-report-le book h = omega (arith, report-le-most book, most_rows-le-eight 1 (length book) (omega arith))

-- ---- a book of newlines
ended_lines-newlines : (k : ℕ) → ended_lines (replicate k newline) ≡ replicate k []
unfolding ended_lines
ended_lines-newlines zero = refl
ended_lines-newlines (suc k) = ap (λ (ls : List (List ℕ)). [] ∷ ls) (ended_lines-newlines k)

taken_by-nils : (k : ℕ) → taken_by (replicate k []) ≡ k
unfolding taken_by
taken_by-nils zero = refl
taken_by-nils (suc k) = omega (arith, taken_by-nils k)

left_newlines : (k : ℕ) → left (replicate k newline) ≡ []
unfolding left
left_newlines k =
    let e : taken_by (ended_lines (replicate k newline)) ≡ length (replicate k newline) = ap taken_by (ended_lines-newlines k) ∙ taken_by-nils k ∙ sym (length-replicate k newline) in
    ap (λ (n : ℕ). drop n (replicate k newline)) e ∙ drop-length (replicate k newline)

-- an empty line is bad
empty_is_bad : (bound : ℕ) → is_good (line_of bound []) ≡ false
unfolding line_of has first_place run same
empty_is_bad bound = refl

-- each has a row with its number, a tab, `0` and a newline
length-rows_of_nils : (bound n k : ℕ) → length (joined (rows_of (bad_lines bound n (replicate k [])))) ≡ most_rows n k
unfolding bad_lines rows_of joined most_rows
length-rows_of_nils bound n zero = refl
length-rows_of_nils bound n (suc k) =
    let row = row_of (record { number = n; size = 0 }) in
    let rows = joined (rows_of (bad_lines bound (suc n) (replicate k []))) in
    rw (empty_is_bad bound)
    (omega (arith, length-append row (newline ∷ rows), length-append (decimal n) (tab ∷ decimal 0), length-decimal_of_lt 0 (omega arith), length-rows_of_nils bound (suc n) k))

pub length-report_newlines : (bound k : ℕ) → length (report bound (replicate k newline)) ≡ most_rows 1 k
unfolding report dropped
length-report_newlines bound k =
    (λ i. length (joined (rows_of (bad_lines bound 1 (ended_lines-newlines k i) ++ bad_piece (suc (length (ended_lines (replicate k newline)))) (left_newlines k i)))))
    ∙ ap (λ (ds : List Dropped). length (joined (rows_of ds))) (append-nil (bad_lines bound 1 (replicate k [])))
    ∙ length-rows_of_nils bound 1 k

-- the report on 65,536 newlines has as many bytes as a report can have
pub most_is_reached : (bound : ℕ) → length (report bound (replicate 65536 newline)) ≡ 513182
most_is_reached bound = length-report_newlines bound 65536 ∙ most_rows-65536
