-- What a caller can say of a compacted book. In order: its lines are the kept ones (`ended_lines-compacted`); compacted again, it is the same
-- (`compacted_twice`); it is no longer than the book (`length-compacted-le`) and good (`compacted_is_a_good_book`), also with a good line behind it
-- (`freed_room_is_usable`), which stays if it is new (`new_line_stays`); compacting before lines are added changes nothing (`compacting_in_between`); its
-- listing is that of the book without the lines that went (`listing_of_compacted`).
-- Assumes nothing.
use Rattle.std.specs.Prelude.{None, Option, Some, ℤ, Ok}
use mathlib.Core.Path.{◌≡◌, refl, sym, ap, ◌∙◌}
use mathlib.Core.Bool.{true, false≢true, and-false}
use mathlib.Core.List.{List, [], ◌∷◌, ◌++◌}
use Prim.Native.Nat.{ℕ, ◌≤◌}
use native.Mathlib.Omega.{arith}
use lib.ListN.{length}
use Rattle.text.specs.Lines.{newline, ended_lines, left}
use Rattle.text.proofs.Lists.{by_test}
use Rattle.text.proofs.Texts.{Lacking}
use Rattle.stamps.specs.Lines.{line_of, is_good}
use Rattle.stamps.specs.Writing.{ended}
use Rattle.stamps.specs.Book.{max_book, judged, check_of}
use Rattle.stamps.specs.Copies.{joined}
use Rattle.stamps.specs.Listing.{is_listed, cut_off_below, listed, listing}
use Rattle.stamps.specs.Theorems.{are_good, is_hull_line}
use Rattle.stamps.specs.declared.line.Line.{Line}
use Rattle.stamps.specs.declared.line.Line.TheVariants.{Hull, Since}
use Rattle.stamps.proofs.Books.{are_good-append, length-joined, taken_by-le, ended_lines-nil}
use Rattle.stamps.proofs.Listings.{good_book_iff, judged-append, joined_good_iff, lacking_of_good, ended_lines-joined, left_joined, not_has_newline_of_good, ended_lines-line}
use Rattle.compact.specs.Compact.{is_kept, kept, compacted}
use Rattle.compact.specs.Theorems.{kept_marks, IsNew, listed_of_kept}
use Rattle.stamps.proofs.WholeTexts.{lacking-ended_lines, ended_lines-append, joined-append}
use Rattle.stamps.proofs.Picked.{lacking_picked, are_good-picked, length-picked-le}
use Rattle.compact.proofs.Kept.{kept_lines_in_order, same_paths}
use Rattle.compact.proofs.Above.{hull_of_gone}
use Rattle.compact.proofs.Added.{kept_append, kept_twice, kept_new_line}

module _ (bound : ℕ) where
  -- ---- the compacted book
  lacking_kept : (ls : List (List ℕ)) → Lacking newline ls → Lacking newline (kept bound ls)
  lacking_kept ls h = rw kept_lines_in_order (lacking_picked (kept_marks bound ls) ls h)

  -- its lines are the lines that are kept, and nothing is left behind them
  pub ended_lines-compacted : (book : List ℕ) → ended_lines (compacted bound book) ≡ kept bound (ended_lines book)
  unfolding compacted
  ended_lines-compacted book = ended_lines-joined (kept bound (ended_lines book)) (lacking_kept (ended_lines book) (lacking-ended_lines book))

  left_compacted : (book : List ℕ) → left (compacted bound book) ≡ []
  unfolding compacted
  left_compacted book = left_joined (kept bound (ended_lines book)) (lacking_kept (ended_lines book) (lacking-ended_lines book))

  pub compacted_twice : (book : List ℕ) → compacted bound (compacted bound book) ≡ compacted bound book
  unfolding compacted
  compacted_twice book = ap (λ (ls : List (List ℕ)). joined (kept bound ls)) (ended_lines-compacted book) ∙ ap joined (kept_twice bound (ended_lines book))

  -- so a room that is as long as the book is always long enough
  pub length-compacted-le : (book : List ℕ) → length (compacted bound book) ≤ length book
  unfolding compacted
  length-compacted-le book =
      let ls = ended_lines book in
      omega (
        arith,
        ap (λ (t : List (List ℕ)). length (joined t)) (kept_lines_in_order bound ls),
        length-picked-le (kept_marks bound ls) ls,
        length-joined ls,
        taken_by-le book,
      )

  are_good-kept : (ls : List (List ℕ)) → are_good (judged bound ls) ≡ true → are_good (judged bound (kept bound ls)) ≡ true
  are_good-kept ls g = rw kept_lines_in_order (are_good-picked bound (kept_marks bound ls) ls g)

  pub compacted_is_a_good_book : (book : List ℕ) → check_of bound book ≡ Ok tt → check_of bound (compacted bound book) ≡ Ok tt
  compacted_is_a_good_book book good =
      let p = (good_book_iff bound book).0 good in
      (good_book_iff bound (compacted bound book)).1 (
        omega (arith, p.0, length-compacted-le book),
        left_compacted book,
        ap (λ (ls : List (List ℕ)). are_good (judged bound ls)) (ended_lines-compacted book) ∙ are_good-kept (ended_lines book) p.2,
      )

  -- ---- a line behind it
  joined_added : (ls : List (List ℕ)) (m : List ℕ) → joined (ls ++ m ∷ []) ≡ joined ls ++ ended m
  unfolding joined
  joined_added ls m = joined-append ls (m ∷ [])

  pub freed_room_is_usable : (book m : List ℕ) → check_of bound book ≡ Ok tt → is_good (line_of bound m) ≡ true → length (compacted bound book ++ ended m) ≤ max_book
      → check_of bound (compacted bound book ++ ended m) ≡ Ok tt
  unfolding compacted judged are_good
  freed_room_is_usable book m good g h =
      let ls = kept bound (ended_lines book) in
      let all : are_good (judged bound (ls ++ m ∷ [])) ≡ true =
      ap are_good (judged-append bound ls (m ∷ [])) ∙ are_good-append (judged bound ls) (judged bound (m ∷ [])) ∙ rw (are_good-kept (ended_lines book) ((good_book_iff bound book).0 good).2, g) in
      ap (check_of bound) (sym (joined_added ls m))
      ∙ (joined_good_iff bound (ls ++ m ∷ []) (lacking_of_good bound (ls ++ m ∷ []) all) (omega (arith, ap length (joined_added ls m)))).1 all

  -- a line whose path was not there, or a line of `since`, stays
  pub new_line_stays : (book m : List ℕ) → is_good (line_of bound m) ≡ true → IsNew bound m (ended_lines book) → compacted bound (compacted bound book ++ ended m) ≡ compacted bound book ++ ended m
  unfolding compacted
  new_line_stays book m g new =
      let ls = kept bound (ended_lines book) in
      ap (λ (v : List (List ℕ)). joined (kept bound v))
      (ended_lines-append (compacted bound book) (ended m) (left_compacted book) ∙ (λ i. ended_lines-compacted book i ++ one_line i))
      ∙ ap joined (kept_new_line bound ls m (λ p e. same_paths bound p (ended_lines book) ∙ new p e) ∙ ap (λ (v : List (List ℕ)). v ++ m ∷ []) (kept_twice bound (ended_lines book)))
      ∙ joined_added ls m
    where
      one_line : ended_lines (ended m) ≡ m ∷ []
      one_line = ended_lines-line m [] (not_has_newline_of_good bound m g) ∙ ap (λ (v : List (List ℕ)). m ∷ v) ended_lines-nil

  -- compacting a book before more is added changes nothing
  pub compacting_in_between : (book more : List ℕ) → check_of bound book ≡ Ok tt → compacted bound (compacted bound book ++ more) ≡ compacted bound (book ++ more)
  unfolding compacted
  compacting_in_between book more good =
      ap (λ (v : List (List ℕ)). joined (kept bound v))
      (ended_lines-append (compacted bound book) more (left_compacted book) ∙ ap (λ (v : List (List ℕ)). v ++ ended_lines more) (ended_lines-compacted book))
      ∙ ap joined (kept_append bound (ended_lines book) (ended_lines more))
      ∙ ap (λ (v : List (List ℕ)). joined (kept bound v)) (sym (ended_lines-append book more ((good_book_iff bound book).0 good).1))

  -- ---- listings
  listed_kept : (c : Option ℤ) (ls : List (List ℕ)) → listed bound c (kept bound ls) ≡ listed_of_kept bound c ls
  unfolding kept listed listed_of_kept
  listed_kept c [] = refl
  listed_kept c (l ∷ ls) =
      let x = line_of bound l in
      by_test (is_kept bound l x ls)
      (λ y. by_test (is_listed c x) (λ t. rw (y, t, listed_kept (cut_off_below c x) ls)) (λ t. rw (y, t, listed_kept (cut_off_below c x) ls)))
      (λ n. rw (n, and-false (is_listed c x)) (listed_kept c ls ∙ ap (λ (d : Option ℤ). listed_of_kept bound d ls) (sym (cut_off_below-hull c x (hull_of_gone bound l x ls n)))))
    where
      cut_off_below-hull : (c : Option ℤ) (x : Option Line) → is_hull_line x ≡ true → cut_off_below c x ≡ c
      cut_off_below-hull c (Some (Hull h)) e = refl
      cut_off_below-hull c (Some (Since x)) e = absurd (false≢true e)
      cut_off_below-hull c None e = absurd (false≢true e)

  pub listing_of_compacted : (book : List ℕ) → listing bound (compacted bound book) ≡ joined (listed_of_kept bound None (ended_lines book))
  unfolding listing
  listing_of_compacted book = ap (λ (ls : List (List ℕ)). joined (listed bound None ls)) (ended_lines-compacted book) ∙ ap joined (listed_kept None (ended_lines book))
