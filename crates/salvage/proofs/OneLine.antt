-- Each line is judged alone. In order: a text that ends in a newline, and what follows it (`salvaged-append`, `dropped-append`);
-- a book whose damage is one line loses that line alone (`one-bad_line`), or its last piece (`one-bad_piece`); the last row of
-- the report has the number of the last bad line (`last-number_is_the-last-row`), which is 0 exactly if the report is empty
-- (`last-number-zero_iff`).
-- Assumes nothing.
use Rattle.std.specs.Prelude.{Ok}
use mathlib.Core.Path.{◌≡◌, refl, sym, ap, ◌∙◌}
use mathlib.Core.Bool.{false}
use mathlib.Core.Logic.{◌↔◌}
use mathlib.Core.List.{List, [], ◌∷◌, ◌++◌, append_assoc, append-nil}
use Prim.Native.Nat.{ℕ, suc, ◌+◌, ◌<◌}
use native.Mathlib.Omega.{arith}
use lib.ListN.{length, length-append}
use Rattle.text.specs.Decimal.{decimal}
use Rattle.text.specs.Lines.{tab, newline, ended_lines, left}
use Rattle.text.specs.Places.{has}
use Rattle.text.proofs.Lists.{by_test}
use Rattle.stamps.specs.Lines.{line_of, is_good}
use Rattle.stamps.specs.Book.{check_of}
use Rattle.stamps.specs.Copies.{joined}
use Rattle.stamps.proofs.Books.{ended_lines-open, left_open}
use Rattle.stamps.proofs.Fields.{field-append}
use Rattle.stamps.proofs.Listings.{good_book_iff, ended_lines-line, left_joined}
use Rattle.stamps.proofs.WholeTexts.{ended_lines-append, left-append, joined-append}
use Rattle.salvage.specs.Salvage.{good_lines, salvaged, Dropped, bad_lines, bad_piece, dropped, last_number, row_of, rows_of, report}
use Rattle.salvage.specs.Theorems.{LastRow}
use Rattle.salvage.proofs.AddUp.{Free-decimal, not_has_row}
use Rattle.salvage.proofs.GoodLines.{salvaged_of_good, bad_lines_of_good, none_of_report}

-- ---- a line in front of a text, and a last piece
left_line : (l t : List ℕ) → has newline l ≡ false → left (l ++ newline ∷ t) ≡ left t
unfolding joined
left_line l t h = ap left (sym (append_assoc l (newline ∷ []) t)) ∙ left-append (l ++ newline ∷ []) t (left_joined (l ∷ []) (h, tt))

pub bad_piece-some : (n : ℕ) (s : List ℕ) → 0 < length s → bad_piece n s ≡ record { number = n; size = length s } ∷ []
bad_piece-some n [] h = absurd (omega arith)
bad_piece-some n (b ∷ s) h = refl

-- ---- a text that ends in a newline, and what follows it
module _ (bound : ℕ) where
  good_lines-append : (a b : List (List ℕ)) → good_lines bound (a ++ b) ≡ good_lines bound a ++ good_lines bound b
  unfolding good_lines
  good_lines-append [] b = refl
  good_lines-append (l ∷ a) b = by_test (is_good (line_of bound l)) (λ y. rw (y, good_lines-append a b)) (λ n. rw (n, good_lines-append a b))

  -- what is kept of the first, then what is kept of the second
  pub salvaged-append : (a b : List ℕ) → left a ≡ [] → salvaged bound (a ++ b) ≡ salvaged bound a ++ salvaged bound b
  unfolding salvaged
  salvaged-append a b e =
      ap (λ (ls : List (List ℕ)). joined (good_lines bound ls)) (ended_lines-append a b e)
      ∙ ap joined (good_lines-append (ended_lines a) (ended_lines b))
      ∙ joined-append (good_lines bound (ended_lines a)) (good_lines bound (ended_lines b))

  bad_lines-append : (n : ℕ) (a b : List (List ℕ)) → bad_lines bound n (a ++ b) ≡ bad_lines bound n a ++ bad_lines bound (n + length a) b
  unfolding bad_lines
  bad_lines-append n [] b = let e : n ≡ n + 0 = omega arith in ap (λ (m : ℕ). bad_lines bound m b) e
  bad_lines-append n (l ∷ a) b =
      let e : suc n + length a ≡ n + suc (length a) = omega arith in
      let below : bad_lines bound (suc n) (a ++ b) ≡ bad_lines bound (suc n) a ++ bad_lines bound (n + suc (length a)) b =
      bad_lines-append (suc n) a b ∙ ap (λ (m : ℕ). bad_lines bound (suc n) a ++ bad_lines bound m b) e in
      by_test (is_good (line_of bound l)) (λ y. rw (y, below)) (λ k. rw (k, below))

  -- the bad lines of the second count on from the lines of the first
  pub dropped-append : (a b : List ℕ) → left a ≡ []
      → dropped bound (a ++ b)
      ≡ bad_lines bound 1 (ended_lines a) ++ (bad_lines bound (suc (length (ended_lines a))) (ended_lines b) ++ bad_piece (suc (length (ended_lines a)) + length (ended_lines b)) (left b))
  unfolding dropped
  dropped-append a b e =
      let ls = ended_lines a in
      let ms = ended_lines b in
      let n : 1 + length ls ≡ suc (length ls) = omega arith in
      let m : suc (length (ls ++ ms)) ≡ suc (length ls) + length ms = omega (arith, length-append ls ms) in
      (λ i. bad_lines bound 1 (ended_lines-append a b e i) ++ bad_piece (suc (length (ended_lines-append a b e i))) (left-append a b e i))
      ∙ (λ i. bad_lines-append 1 ls ms i ++ bad_piece (m i) (left b))
      ∙ ap (λ (k : ℕ). (bad_lines bound 1 ls ++ bad_lines bound k ms) ++ bad_piece (suc (length ls) + length ms) (left b)) n
      ∙ append_assoc (bad_lines bound 1 ls) (bad_lines bound (suc (length ls)) ms) (bad_piece (suc (length ls) + length ms) (left b))

  -- ---- below a good book
  module _ (above : List ℕ) (good : check_of bound above ≡ Ok tt) where
    salvaged_below : (t : List ℕ) → salvaged bound (above ++ t) ≡ above ++ salvaged bound t
    salvaged_below t =
        let p = (good_book_iff bound above).0 good in
        salvaged-append above t p.1 ∙ ap (λ (s : List ℕ). s ++ salvaged bound t) (salvaged_of_good bound above p.1 p.2)

    dropped_behind : (t : List ℕ)
        → dropped bound (above ++ t)
        ≡ bad_lines bound (suc (length (ended_lines above))) (ended_lines t) ++ bad_piece (suc (length (ended_lines above)) + length (ended_lines t)) (left t)
    dropped_behind t =
        let p = (good_book_iff bound above).0 good in
        let n = suc (length (ended_lines above)) in
        dropped-append above t p.1
        ∙ ap (λ (ds : List Dropped). ds ++ (bad_lines bound n (ended_lines t) ++ bad_piece (n + length (ended_lines t)) (left t))) (bad_lines_of_good bound 1 (ended_lines above) p.2)

  -- ---- a bad line on top of a good book
  module _ (l below : List ℕ) (good : check_of bound below ≡ Ok tt) (one_line : has newline l ≡ false) (bad : is_good (line_of bound l) ≡ false) where
    salvaged_bad_line : salvaged bound (l ++ newline ∷ below) ≡ below
    unfolding salvaged good_lines
    salvaged_bad_line =
        let q = (good_book_iff bound below).0 good in
        let kept : good_lines bound (l ∷ ended_lines below) ≡ good_lines bound (ended_lines below) = rw bad in
        ap (λ (ls : List (List ℕ)). joined (good_lines bound ls)) (ended_lines-line l below one_line) ∙ ap joined kept ∙ salvaged_of_good bound below q.1 q.2

    -- where that line has number n
    bad_lines-bad_line : (n : ℕ) → bad_lines bound n (ended_lines (l ++ newline ∷ below)) ≡ record { number = n; size = length l } ∷ []
    unfolding bad_lines
    bad_lines-bad_line n =
        let none = bad_lines_of_good bound (suc n) (ended_lines below) ((good_book_iff bound below).0 good).2 in
        ap (bad_lines bound n) (ended_lines-line l below one_line) ∙ rw bad (ap (λ (ds : List Dropped). record { number = n; size = length l } ∷ ds) none)

    whole_bad_line : left (l ++ newline ∷ below) ≡ []
    whole_bad_line = left_line l below one_line ∙ ((good_book_iff bound below).0 good).1

  -- a book whose damage is one line loses that line alone
  pub one-bad_line : (above below l : List ℕ) → check_of bound above ≡ Ok tt → check_of bound below ≡ Ok tt → has newline l ≡ false → is_good (line_of bound l) ≡ false
      → (salvaged bound (above ++ l ++ newline ∷ below) ≡ above ++ below)
      × (dropped bound (above ++ l ++ newline ∷ below) ≡ record { number = suc (length (ended_lines above)); size = length l } ∷ [])
  one-bad_line above below l a b h bad =
      let t = l ++ newline ∷ below in
      let n = suc (length (ended_lines above)) in
      let book : above ++ l ++ newline ∷ below ≡ above ++ t = append_assoc above l (newline ∷ below) in (
        ap (salvaged bound) book ∙ salvaged_below above a t ∙ ap (λ (s : List ℕ). above ++ s) (salvaged_bad_line l below b h bad),
        ap (dropped bound) book ∙ dropped_behind above a t
            ∙ (λ i. bad_lines-bad_line l below b h bad n i ++ bad_piece (n + length (ended_lines t)) (whole_bad_line l below b h bad i)),
      )

  -- a good book with a last piece behind it loses that piece alone, also if the bytes of the piece would be a good line
  pub one-bad_piece : (above piece : List ℕ) → check_of bound above ≡ Ok tt → has newline piece ≡ false → 0 < length piece
      → (salvaged bound (above ++ piece) ≡ above) × (dropped bound (above ++ piece) ≡ record { number = suc (length (ended_lines above)); size = length piece } ∷ [])
  unfolding salvaged good_lines bad_lines joined
  one-bad_piece above piece a h some =
      let n = suc (length (ended_lines above)) in
      let e : n + 0 ≡ n = omega arith in
      let none : ended_lines piece ≡ [] = ended_lines-open piece h in (
        salvaged_below above a piece ∙ ap (λ (ls : List (List ℕ)). above ++ joined (good_lines bound ls)) none ∙ append-nil above,
        dropped_behind above a piece
            ∙ (λ i. bad_lines bound n (none i) ++ bad_piece (n + length (none i)) (left_open piece none i))
            ∙ ap (λ (m : ℕ). bad_piece m piece) e
            ∙ bad_piece-some n piece some,
      )

-- ---- the last row
last_row_from : (n : ℕ) (d : Dropped) (ds : List Dropped) → LastRow (joined (rows_of (d ∷ ds))) (last_number n (d ∷ ds))
unfolding joined rows_of last_number
last_row_from n d [] = record {
  front = [];
  row = row_of d;
  report_is = refl;
  begins = left_joined [] tt;
  one_line = not_has_row d;
  number_is = field-append (decimal d.number) (decimal d.size) (Free-decimal tab (omega arith) d.number);
}
last_row_from n d (e ∷ ds) =
    let last = last_row_from d.number e ds in
    let first = row_of d ++ newline ∷ [] in record {
      front = first ++ last.front;
      row = last.row;
      report_is =
          ap (λ (s : List ℕ). row_of d ++ newline ∷ s) last.report_is
          ∙ sym (append_assoc (row_of d) (newline ∷ []) (last.front ++ last.row ++ newline ∷ []))
          ∙ sym (append_assoc first (last.front ++ last.row) (newline ∷ []))
          ∙ ap (λ (s : List ℕ). s ++ newline ∷ []) (sym (append_assoc first last.front last.row));
      begins = left-append first last.front (left_joined (row_of d ∷ []) (not_has_row d, tt)) ∙ last.begins;
      one_line = last.one_line;
      number_is = last.number_is;
    }

module _ (bound : ℕ) (book : List ℕ) where
  -- the last row of a report has the number of the last bad line
  pub last-number_is_the-last-row : (report bound book ≡ [] → ⊥) → LastRow (report bound book) (last_number 0 (dropped bound book))
  unfolding report rows_of joined
  last-number_is_the-last-row some = by_first (dropped bound book) some
    where
      by_first : (ds : List Dropped) → (joined (rows_of ds) ≡ [] → ⊥) → LastRow (joined (rows_of ds)) (last_number 0 ds)
      by_first [] some = absurd (some refl)
      by_first (d ∷ ds) some = last_row_from 0 d ds

-- ---- numbers count from 1
abbrev Counted : List Dropped → Type 0
Counted [] = Unit {0}
Counted (d ∷ ds) = (0 < d.number) × Counted ds

counted-append : (a b : List Dropped) → Counted a → Counted b → Counted (a ++ b)
counted-append [] b h k = k
counted-append (d ∷ a) b h k = (h.0, counted-append a b h.1 k)

counted-bad_lines : (bound n : ℕ) (ls : List (List ℕ)) → 0 < n → Counted (bad_lines bound n ls)
unfolding bad_lines
counted-bad_lines bound n [] h = tt
counted-bad_lines bound n (l ∷ ls) h =
    let below = counted-bad_lines bound (suc n) ls (omega arith) in
    by_test (is_good (line_of bound l)) (λ y. rw y below) (λ b. rw b (h, below))

counted-bad_piece : (n : ℕ) (s : List ℕ) → 0 < n → Counted (bad_piece n s)
counted-bad_piece n [] h = tt
counted-bad_piece n (b ∷ s) h = (h, tt)

last_number-pos : (n : ℕ) (ds : List Dropped) → 0 < n → Counted ds → 0 < last_number n ds
unfolding last_number
last_number-pos n [] h c = h
last_number-pos n (d ∷ ds) h c = last_number-pos d.number ds c.0 c.1

none_of_last_number : (ds : List Dropped) → Counted ds → last_number 0 ds ≡ 0 → ds ≡ []
unfolding last_number
none_of_last_number [] c e = refl
none_of_last_number (d ∷ ds) c e = absurd (omega (arith, last_number-pos d.number ds c.0 c.1))

module _ (bound : ℕ) (book : List ℕ) where
  counted_dropped : Counted (dropped bound book)
  unfolding dropped
  counted_dropped =
      let ls = ended_lines book in
      counted-append (bad_lines bound 1 ls) (bad_piece (suc (length ls)) (left book)) (counted-bad_lines bound 1 ls (omega arith)) (counted-bad_piece (suc (length ls)) (left book) (omega arith))

  -- the number of the last bad line is 0 exactly if the report is empty
  pub last-number-zero_iff : (last_number 0 (dropped bound book) ≡ 0) ↔ (report bound book ≡ [])
  unfolding report rows_of joined last_number
  last-number-zero_iff = (
    λ e. ap (λ (ds : List Dropped). joined (rows_of ds)) (none_of_last_number (dropped bound book) counted_dropped e),
    λ e. ap (last_number 0) (none_of_report bound book e),
  )
