-- RULES 13.19: a book by two bounds on the pairs of a relative date, the second at least the first. A line that is good by the first is the
-- same line by the second (`good_line_stays`); so a book that is good stays good (`good_book_stays`) and lists the same hulls
-- (`listing_stays`, `list_stays`), and a `since` line that is written is written alike (`since_writing_stays`). Of the lines that are good by
-- the second, exactly the `since` lines whose text is beyond the first are bad by the first (`bad_by_smaller_bound_iff`); a book that is
-- good by the second is refused by the first exactly at the first of them, by 10 (`refused_by_smaller_bound_iff`).
-- Assumes nothing.
use Rattle.std.specs.Prelude.{Err, None, Option, Some, ℤ, Ok, Result}
use mathlib.Core.Path.{◌≡◌, refl, sym, ap, ◌∙◌}
use mathlib.Core.Bool.{true, not, ◌&&◌, false≢true}
use mathlib.Core.Logic.{◌↔◌, ◌⊎◌, inl, inr, ⊎_elim}
use mathlib.Core.List.{List, [], ◌∷◌, ◌++◌, append_assoc, append-nil}
use Prim.Native.Nat.{ℕ, suc, ◌+◌, ◌≤◌}
use native.Mathlib.Omega.{arith}
use lib.ListN.{length, take, drop}
use lib.Seq.{take-append_seam, drop-append_seam, drop-append-add}
use Rattle.text.specs.Bytes.{same}
use Rattle.text.specs.Quote.{bytes}
use Rattle.text.specs.Places.{has, part}
use Rattle.text.specs.Lines.{tab, newline, field, rest, ended_lines, left}
use Rattle.text.proofs.Lists.{by_test, both}
use Rattle.time.specs.Answers.{time_at}
use Rattle.time.specs.declared.Time.{Time}
use Rattle.time.specs.declared.Refusal.TheVariants.{Pairs, Book}
use Rattle.relative.specs.Relative.{relative_of}
use Rattle.relative.specs.Bounds.{BeyondBound}
use Rattle.relative.proofs.Bounds.{larger_bound_answers_alike, refused_by_bound_iff}
use Rattle.stamps.specs.Stamps.{printed}
use Rattle.stamps.specs.Lines.{since_at, since_with, since_of, line_of, is_good}
use Rattle.stamps.specs.Writing.{since_line, is_read, is_since, since_written}
use Rattle.stamps.specs.Book.{max_book, judged, last_piece, lines_in, check_of, checked_number, checked_line, refused_at}
use Rattle.stamps.specs.Copies.{joined, copied_at}
use Rattle.stamps.specs.Listing.{cut_off_below, listed, listing, list_of}
use Rattle.stamps.specs.Theorems.{are_good, is_hull_line, LongLineBehind}
use Rattle.stamps.specs.declared.line.Hull.{Hull as HullValue}
use Rattle.stamps.specs.declared.line.Since.{Since as SinceValue}
use Rattle.stamps.specs.declared.line.Line.{Line}
use Rattle.stamps.specs.declared.line.Line.TheVariants.{Hull, Since}
use Rattle.stamps.proofs.Reading.{bad_of_not-good}
use Rattle.stamps.proofs.Books.{are_good-append}
use Rattle.stamps.proofs.Listings.{good_book_iff, judged-append, refused_at_line_iff}
use Rattle.stamps.proofs.ReadBack.{since_read_back}
use Rattle.stamps.proofs.WriteBack.{since_is_not-hull, since_written_back}
use Rattle.stamps.specs.declared.book.BookError.{BookError}

-- ---- the book is refused by 10 at its first bad line
length-judged : (bound : ℕ) (ls : List (List ℕ)) → length (judged bound ls) ≡ length ls
unfolding judged
length-judged bound [] = refl
length-judged bound (l ∷ ls) = ap suc (length-judged bound ls)

refused_at_bad_line : (bound : ℕ) (book : List ℕ) (above : List (List ℕ)) (l : List ℕ) (below : List (List ℕ))
    → length book ≤ max_book → ended_lines book ≡ above ++ l ∷ below → are_good (judged bound above) ≡ true → line_of bound l ≡ None → check_of bound book ≡ refused_at Book (1 + length above)
unfolding lines_in judged
refused_at_bad_line bound book above l below h e g bad =
    let front = judged bound above in
    let behind = judged bound below ++ last_piece (left book) in
    let lines : lines_in bound book ≡ front ++ None ∷ behind =
    ap (λ (ls : List (List ℕ)). judged bound ls ++ last_piece (left book)) e
    ∙ ap (λ (ls : List (Option Line)). ls ++ last_piece (left book)) (judged-append bound above (l ∷ below))
    ∙ append_assoc front (line_of bound l ∷ judged bound below) (last_piece (left book))
    ∙ ap (λ (x : Option Line). front ++ x ∷ behind) bad in
    let next : suc (length front) ≡ length front + 1 = omega arith in
    let rest : drop (suc (length front)) (front ++ None ∷ behind) ≡ behind = ap (λ (n : ℕ). drop n (front ++ None ∷ behind)) next ∙ drop-append-add front (None ∷ behind) 1 in
    let good = ap (λ (ls : List (Option Line)). are_good (take (length front) ls)) lines ∙ ap are_good (take-append_seam front (None ∷ behind)) ∙ g in
    let first = ap (drop (length front)) lines ∙ drop-append_seam front (None ∷ behind) ∙ ap (λ (ls : List (Option Line)). None ∷ ls) (sym (ap (drop (suc (length front))) lines ∙ rest)) in
    (refused_at_line_iff bound (length front) book).1 (h, good, first) ∙ ap (λ (n : ℕ). refused_at Book (1 + n)) (length-judged bound above)

-- ---- a text that is refused makes no `since` line
is_since-not-5 : (bound : ℕ) (text : List ℕ) (current : Time) → is_since bound text current ≡ true → relative_of bound text (Some current) ≡ Err Pairs → ⊥
unfolding is_since
is_since-not-5 bound text current g five =
    let free = not (has tab text) && not (has newline text) in
    false≢true (sym (ap is_read five) ∙ (both free (is_read (relative_of bound text (Some current))) g).1)

-- ---- a `hull` line has no relative date
hull_by_any_bound : (a b : ℕ) (l : List ℕ) (h : HullValue) → line_of a l ≡ Some (Hull h) → line_of b l ≡ Some (Hull h)
unfolding line_of
hull_by_any_bound a b l h e =
    by_test (has newline l) (λ n. absurd (false≢true (ap is_hull_line (rw n at e))))
    (λ n.
    by_test (same (field l) (bytes "hull")) (λ k. rw (n, k) (rw (n, k) at e))
    (λ k.
    by_test (same (field l) (bytes "since"))
    (λ m. absurd (false≢true (sym (since_is_not-hull a (field (rest l)) (field (rest (rest l))) (rest (rest (rest l)))) ∙ ap is_hull_line (rw (n, k, m) at e))))
    (λ m. absurd (false≢true (ap is_hull_line (rw (n, k, m) at e))))))

-- ---- two bounds
module _ (a b : ℕ) (within : a ≤ b) where
  -- a line by the larger bound is as it is by the smaller one, or bad by that
  since_with-alike : (text : List ℕ) (z o : Option ℤ) → (since_with b text z o ≡ since_with a text z o) ⊎ (since_with a text z o ≡ None)
  since_with-alike text (Some z) (Some o) =
      ⊎_elim (λ same. inl (ap (since_at text (time_at z o)) same)) (λ five. inr (ap (since_at text (time_at z o)) five))
      (larger_bound_answers_alike a b text (Some (time_at z o)) within)
  since_with-alike text (Some z) None = inl refl
  since_with-alike text None o = inl refl

  line_of-alike : (l : List ℕ) → (line_of b l ≡ line_of a l) ⊎ (line_of a l ≡ None)
  unfolding line_of since_of
  line_of-alike l =
      by_test (has newline l) (λ n. rw n (inl refl))
      (λ n.
      by_test (same (field l) (bytes "hull")) (λ h. rw (n, h) (inl refl))
      (λ h. by_test (same (field l) (bytes "since")) (λ k. rw (n, h, k) (since_with-alike (field (rest l)) (printed (field (rest (rest l)))) (printed (rest (rest (rest l)))))) (λ k. rw (n, h, k) (inl refl))))

  pub good_line_stays : (l : List ℕ) → is_good (line_of a l) ≡ true → line_of b l ≡ line_of a l
  good_line_stays l g = ⊎_elim (λ same. same) (λ bad. absurd (false≢true (rw bad at g))) (line_of-alike l)

  pub judged_stays : (ls : List (List ℕ)) → are_good (judged a ls) ≡ true → judged b ls ≡ judged a ls
  unfolding judged are_good
  judged_stays [] g = refl
  judged_stays (l ∷ ls) g = let p = both (is_good (line_of a l)) (are_good (judged a ls)) g in λ i. good_line_stays l p.0 i ∷ judged_stays ls p.1 i

  listed_stays : (c : Option ℤ) (ls : List (List ℕ)) → are_good (judged a ls) ≡ true → listed b c ls ≡ listed a c ls
  unfolding judged are_good listed
  listed_stays c [] g = refl
  listed_stays c (l ∷ ls) g =
      let p = both (is_good (line_of a l)) (are_good (judged a ls)) g in
      rw (good_line_stays l p.0, listed_stays (cut_off_below c (line_of a l)) ls p.1)

  module _ (book : List ℕ) (good : check_of a book ≡ Ok tt) where
    pub good_book_stays : check_of b book ≡ Ok tt
    good_book_stays = let p = (good_book_iff a book).0 good in (good_book_iff b book).1 (p.0, p.1, ap are_good (judged_stays (ended_lines book) p.2) ∙ p.2)

    pub listing_stays : listing b book ≡ listing a book
    unfolding listing
    listing_stays = ap joined (listed_stays None (ended_lines book) ((good_book_iff a book).0 good).2)

    -- and so does what the call returns
    pub list_stays : (room : List ℕ) → list_of b book room ≡ list_of a book room
    list_stays room = (λ i. copied_at (good_book_stays i) (listing_stays i) room) ∙ sym (ap (λ (c : Result (Unit {0}) BookError). copied_at c (listing a book) room) good)

  -- ---- a `since` line that is written
  is_since-stays : (text : List ℕ) (current : Time) → is_since a text current ≡ true → is_since b text current ≡ true
  unfolding is_since
  is_since-stays text current g = ⊎_elim (λ same. rw same g) (λ five. absurd (is_since-not-5 a text current g five)) (larger_bound_answers_alike a b text (Some current) within)

  is_since-same : (text : List ℕ) (current : Time) → relative_of b text (Some current) ≡ relative_of a text (Some current) → is_since b text current ≡ true → is_since a text current ≡ true
  unfolding is_since
  is_since-same text current same g = rw same at g

  pub since_writing_stays : (text : List ℕ) (current : Time) (room : List ℕ) → is_since a text current ≡ true → since_written b text current room ≡ since_written a text current room
  unfolding since_written
  since_writing_stays text current room g = rw (g, is_since-stays text current g)

  -- ---- a `since` line whose text is beyond the smaller bound
  module _ (l : List ℕ) (x : SinceValue) (line : line_of b l ≡ Some (Since x)) where
    beyond_of_bad : line_of a l ≡ None → BeyondBound a (part l x.text)
    beyond_of_bad bad =
        let text = part l x.text in
        let back = since_written_back b l x line in
        ⊎_elim
        (λ same.
        let good : is_good (line_of a (since_line text x.current)) ≡ true = (since_read_back a text x.current (is_since-same text x.current same back.1)).1 in
        absurd (false≢true (sym (ap (λ (m : List ℕ). is_good (line_of a m)) (sym back.0) ∙ ap is_good bad) ∙ good)))
        (λ five. (refused_by_bound_iff a text (Some x.current)).0 five)
        (larger_bound_answers_alike a b text (Some x.current) within)

    bad_of_beyond : BeyondBound a (part l x.text) → line_of a l ≡ None
    bad_of_beyond long =
        by_test (is_good (line_of a l))
        (λ good.
        let written = (since_written_back a l x (sym (good_line_stays l good) ∙ line)).1 in
        absurd (is_since-not-5 a (part l x.text) x.current written ((refused_by_bound_iff a (part l x.text) (Some x.current)).1 long)))
        (λ bad. bad_of_not-good (line_of a l) bad)

  pub bad_by_smaller_bound_iff : (l : List ℕ) → is_good (line_of b l) ≡ true → (line_of a l ≡ None) ↔ ((x : SinceValue) × (line_of b l ≡ Some (Since x)) × BeyondBound a (part l x.text))
  bad_by_smaller_bound_iff l g = (λ bad. which (line_of b l) refl g bad, λ p. bad_of_beyond l p.0 p.1 p.2)
    where
      which : (y : Option Line) → line_of b l ≡ y → is_good y ≡ true → line_of a l ≡ None → (x : SinceValue) × (line_of b l ≡ Some (Since x)) × BeyondBound a (part l x.text)
      which (Some (Hull h)) e good bad = let z : Some (Hull h) ≡ None = sym (hull_by_any_bound b a l h e) ∙ bad in let q : ◌≡◌ {A = ℕ} 0 1 = cc in absurd (omega arith)
      which (Some (Since x)) e good bad = (x, e, beyond_of_bad l x e bad)
      which None e good bad = absurd (false≢true good)

  -- ---- a book that is good by the larger bound
  module _ (book : List ℕ) (good : check_of b book ≡ Ok tt) where
    long_line_refused : (n : ℕ) → LongLineBehind a b n book → check_of a book ≡ refused_at Book (1 + n)
    long_line_refused n long =
        refused_at_bad_line a book long.above long.line long.below ((good_book_iff b book).0 good).0 long.lines_are long.above_are_good (bad_of_beyond long.line long.since long.line_is long.beyond)
        ∙ ap (λ (k : ℕ). refused_at Book (1 + k)) long.number_is

    -- its lines are good by the smaller bound too, or one is the first that is not
    first_long : (above ls : List (List ℕ)) → ended_lines book ≡ above ++ ls → are_good (judged a above) ≡ true → are_good (judged b ls) ≡ true
        → (are_good (judged a (ended_lines book)) ≡ true) ⊎ ((n : ℕ) × LongLineBehind a b n book)
    unfolding judged are_good
    first_long above [] e g h = inl (ap (λ (ls : List (List ℕ)). are_good (judged a ls)) (e ∙ append-nil above) ∙ g)
    first_long above (l ∷ ls) e g h =
        let p = both (is_good (line_of b l)) (are_good (judged b ls)) h in
        by_test (is_good (line_of a l))
        (λ y.
        let with-line : are_good (judged a (above ++ l ∷ [])) ≡ true =
        ap are_good (judged-append a above (l ∷ [])) ∙ are_good-append (judged a above) (line_of a l ∷ []) ∙ rw (g, y) in
        first_long (above ++ l ∷ []) ls (e ∙ sym (append_assoc above (l ∷ []) ls)) with-line p.1)
        (λ y.
        let long = (bad_by_smaller_bound_iff l p.0).0 (bad_of_not-good (line_of a l) y) in
        inr (length above, record { above = above; line = l; below = ls; since = long.0; lines_are = e; number_is = refl; above_are_good = g; line_is = long.1; beyond = long.2 }))

    pub refused_by_smaller_bound_iff : (n : ℕ) → (check_of a book ≡ refused_at Book (1 + n)) ↔ LongLineBehind a b n book
    unfolding judged are_good
    refused_by_smaller_bound_iff n = (
      λ e.
          let p = (good_book_iff b book).0 good in
          ⊎_elim
          (λ all. let z : refused_at Book (1 + n) ≡ (Ok tt) = sym e ∙ (good_book_iff a book).1 (p.0, p.1, all) in absurd (omega (arith, ap checked_number z)))
          (λ long.
          let same : long.0 ≡ n = omega (arith, ap checked_line (sym (long_line_refused long.0 long.1) ∙ e)) in
          rw same at long.1)
          (first_long [] (ended_lines book) refl refl p.2),
      long_line_refused n,
    )
