-- What a caller can say of books and listings. In order: a line is listed exactly if it is a `hull` line whose seconds are at or
-- after the last cut-off above it (`listed_exactly_if`); listed lines are lines of the book, in its order
-- (`listed_lines_in_order`), and all of them `hull` lines (`listed_lines_are_hulls`); `no_since_lists_all_hulls`; which books are
-- good (`good_book_iff`), at which line a book is refused (`refused_at_line_iff`, `refused_too_long_iff`), and that a line is
-- good by itself exactly if it is good in a book (`good_alone_iff_good_in_a_book`); the lines of a listing are the listed lines
-- (`ended_lines-listing`); the listing of a good book is a good book (`listing_is_a_good_book`) that lists itself
-- (`listing_lists_itself`).
-- Assumes nothing.
use Rattle.std.specs.Prelude.{None, Option, Some, ℤ, Ok, Result}
use mathlib.Core.Path.{◌≡◌, refl, sym, ap, ◌∙◌}
use mathlib.Core.Bool.{true, false, cond, false≢true, and-true}
use mathlib.Core.Logic.{◌↔◌}
use mathlib.Core.List.{List, [], ◌∷◌, ◌++◌, append-nil}
use Prim.Native.Nat.{ℕ, zero, suc, ◌+◌, ◌≤◌, ◌<◌}
use native.Mathlib.Omega.{arith}
use borrow.Author.Tests.{leb-true, leb-false, le-leb}
use lib.Dec.{leb}
use lib.ListN.{length, take, drop}
use lib.Seq.{drop-length}
use Rattle.text.specs.Places.{has}
use Rattle.text.specs.Lines.{newline, ended_lines, taken_by, left}
use Rattle.text.proofs.Lists.{by_test, both}
use Rattle.text.proofs.Texts.{not_has_of_cons, Lacking}
use Rattle.time.specs.declared.Refusal.TheVariants.{Book}
use Rattle.stamps.specs.Lines.{line_of, is_good}
use Rattle.stamps.specs.Book.{max_book, judged, lines_in, first_bad, checked_at, check_of, refused_at, checked_line}
use Rattle.stamps.specs.Copies.{joined}
use Rattle.stamps.specs.Listing.{is_listed, cut_off_in, or_above, cut_off_below, listed, listing}
use Rattle.stamps.specs.Theorems.{are_good, is_hull_line, is_since_line, hulls_of, has_since, last_cut_off}
use Rattle.stamps.specs.Held.{marks_of, picked}
use Rattle.stamps.specs.declared.line.Line.{Line}
use Rattle.stamps.specs.declared.line.Line.TheVariants.{Hull, Since}
use Rattle.stamps.proofs.Reading.{bad_of_not-good}
use Rattle.stamps.proofs.Books.{length-joined, taken_by-le, first_bad-good, first_bad-bad, le-first_bad, are_good-append, good_book, book_of_good, check_of-long}
use Rattle.stamps.proofs.Marks.{picked-marks_of}
use Rattle.stamps.proofs.Picked.{length-picked-le}
use Rattle.stamps.specs.declared.book.BookError.{BookError}

-- ---- a line is listed exactly if it is a `hull` line whose seconds are at or after the last cut-off above it
pub or_above-assoc : (a b c : Option ℤ) → or_above (or_above a b) c ≡ or_above a (or_above b c)
or_above-assoc (Some z) b c = refl
or_above-assoc None b c = refl

or_above-nothing : (a : Option ℤ) → or_above a None ≡ a
or_above-nothing (Some z) = refl
or_above-nothing None = refl

module _ (bound : ℕ) where
  pub listed-append : (c : Option ℤ) (above below : List (List ℕ)) → listed bound c (above ++ below) ≡ listed bound c above ++ listed bound (or_above (last_cut_off bound above) c) below
  unfolding listed last_cut_off
  listed-append c [] below = refl
  listed-append c (l ∷ above) below =
      let x = line_of bound l in
      let e : or_above (last_cut_off bound above) (cut_off_below c x) ≡ or_above (or_above (last_cut_off bound above) (cut_off_in x)) c = sym (or_above-assoc (last_cut_off bound above) (cut_off_in x) c) in
      by_test (is_listed c x) (λ y. rw (y, listed-append (cut_off_below c x) above below, e)) (λ n. rw (n, listed-append (cut_off_below c x) above below, e))

  pub listed_exactly_if : (above : List (List ℕ)) (l : List ℕ) (below : List (List ℕ))
      → listed bound None (above ++ l ∷ below)
      ≡ listed bound None above
      ++ (cond (is_listed (last_cut_off bound above) (line_of bound l)) (l ∷ []) [] ++ listed bound (cut_off_below (last_cut_off bound above) (line_of bound l)) below)
  unfolding listed
  listed_exactly_if above l below =
      let c = last_cut_off bound above in
      listed-append None above (l ∷ below) ∙ ap (λ (x : Option ℤ). listed bound None above ++ listed bound x (l ∷ below)) (or_above-nothing c)
      ∙ by_test (is_listed c (line_of bound l)) (λ y. rw y) (λ n. rw n)

  -- each line has a mark, and the listed lines are those whose mark is 1, in their order
  pub listed_lines_in_order : (c : Option ℤ) (ls : List (List ℕ)) → listed bound c ls ≡ picked (marks_of bound c ls) ls
  listed_lines_in_order c ls = sym (picked-marks_of bound c ls []) ∙ ap (λ (ms : List ℕ). picked ms ls) (append-nil (marks_of bound c ls))

  -- every listed line is a `hull` line
  hull_of_listed : (c : Option ℤ) (x : Option Line) → is_listed c x ≡ true → is_hull_line x ≡ true
  hull_of_listed c (Some (Hull h)) e = refl
  hull_of_listed c (Some (Since x)) e = absurd (false≢true e)
  hull_of_listed c None e = absurd (false≢true e)

  pub listed_lines_are_hulls : (c : Option ℤ) (ls : List (List ℕ)) → hulls_of bound (listed bound c ls) ≡ listed bound c ls
  unfolding listed hulls_of
  listed_lines_are_hulls c [] = refl
  listed_lines_are_hulls c (l ∷ ls) =
      let x = line_of bound l in
      let below = listed_lines_are_hulls (cut_off_below c x) ls in
      by_test (is_listed c x) (λ y. rw (y, hull_of_listed c x y, below)) (λ n. rw n below)

  -- without a `since` line all `hull` lines are listed
  is_listed_of_not-since : (x : Option Line) → is_since_line x ≡ false → (is_listed None x ≡ is_hull_line x) × (cut_off_below None x ≡ None)
  is_listed_of_not-since (Some (Hull h)) e = (refl, refl)
  is_listed_of_not-since (Some (Since x)) e = absurd (false≢true (sym e))
  is_listed_of_not-since None e = (refl, refl)

  pub no_since_lists_all_hulls : (ls : List (List ℕ)) → has_since bound ls ≡ false → listed bound None ls ≡ hulls_of bound ls
  unfolding listed hulls_of has_since
  no_since_lists_all_hulls [] h = refl
  no_since_lists_all_hulls (l ∷ ls) h =
      by_test (is_since_line (line_of bound l)) (λ y. absurd (false≢true (sym (rw y at h))))
      (λ n. let p = is_listed_of_not-since (line_of bound l) n in rw (p.0, p.1, no_since_lists_all_hulls ls (rw n at h)))

-- ---- which books are good
checked_good : (x : Option ℕ) → checked_at x ≡ Ok tt → x ≡ None
checked_good (Some n) e = let z : ◌≡◌ {A = ℕ} 0 1 = cc in absurd (omega arith)
checked_good None e = refl

pub some_of_checked_at : (x : Option ℕ) (n : ℕ) → checked_at x ≡ refused_at Book n → x ≡ Some n
some_of_checked_at (Some m) n e = ap (λ (r : Result (Unit {0}) BookError). Some (checked_line r)) e
some_of_checked_at None n e = let z : ◌≡◌ {A = ℕ} 0 1 = cc in absurd (omega arith)

-- a book that is not too long is refused at its first bad line
pub check_of-within : (bound : ℕ) (book : List ℕ) → length book ≤ max_book → check_of bound book ≡ checked_at (first_bad 1 (lines_in bound book))
unfolding check_of
check_of-within bound book h = rw (le-leb (length book) max_book h)

pub le-max_book_of_check_of : (bound : ℕ) (book : List ℕ) (r : Result (Unit {0}) BookError) → check_of bound book ≡ r → (refused_at Book 0 ≡ r → ⊥) → length book ≤ max_book
unfolding check_of
le-max_book_of_check_of bound book r e not =
    by_test (leb (length book) max_book) (λ y. leb-true (length book) max_book y) (λ n. absurd (not (rw n at e)))

pub good_book_iff : (bound : ℕ) (book : List ℕ) → (check_of bound book ≡ Ok tt) ↔ ((length book ≤ max_book) × (left book ≡ []) × (are_good (judged bound (ended_lines book)) ≡ true))
good_book_iff bound book = (
  λ e.
      let h = le-max_book_of_check_of bound book (Ok tt) e (λ q. let z : ◌≡◌ {A = ℕ} 0 1 = cc in omega arith) in
      let p = good_book bound book (checked_good (first_bad 1 (lines_in bound book)) (sym (check_of-within bound book h) ∙ e)) in
      (h, p.1, p.0),
  λ c. check_of-within bound book c.0 ∙ ap checked_at (book_of_good bound book c.2 c.1),
)

-- ---- at which line a book is refused
-- n lines are good, and the next one is bad
abbrev FirstBadAt : ℕ → List (Option Line) → Type 0
FirstBadAt n ls = (are_good (take n ls) ≡ true) × (drop n ls ≡ None ∷ drop (suc n) ls)

first_bad_at : (m n : ℕ) (ls : List (Option Line)) → FirstBadAt n ls → first_bad m ls ≡ Some (m + n)
unfolding are_good first_bad
first_bad_at m zero [] c = absurd (omega (arith, ap length c.1))
first_bad_at m zero (l ∷ ls) c = let q : l ≡ None = cc c.1 in let k : m ≡ m + 0 = omega arith in ap (λ (x : Option Line). first_bad m (x ∷ ls)) q ∙ ap Some k
first_bad_at m (suc n) [] c = absurd (omega (arith, ap length c.1))
first_bad_at m (suc n) (l ∷ ls) c =
    let p = both (is_good l) (are_good (take n ls)) c.0 in
    let k : suc m + n ≡ m + suc n = omega arith in
    first_bad-good m l ls p.0 ∙ first_bad_at (suc m) n ls (p.1, c.1) ∙ ap Some k

at_first_bad : (m n : ℕ) (ls : List (Option Line)) → first_bad m ls ≡ Some (m + n) → FirstBadAt n ls
unfolding are_good first_bad
at_first_bad m n [] e = let z : ◌≡◌ {A = ℕ} 0 1 = cc in absurd (omega arith)
at_first_bad m zero (l ∷ ls) e =
    by_test (is_good l) (λ g. absurd (omega (arith, le-first_bad (suc m) (m + 0) ls (sym (first_bad-good m l ls g) ∙ e))))
    (λ b. (refl, ap (λ (x : Option Line). x ∷ ls) (bad_of_not-good l b)))
at_first_bad m (suc n) (l ∷ ls) e =
    let k : m + suc n ≡ suc m + n = omega arith in
    by_test (is_good l)
    (λ g. let p = at_first_bad (suc m) n ls (sym (first_bad-good m l ls g) ∙ e ∙ ap Some k) in (rw g p.0, p.1))
    (λ b. let f = sym (first_bad-bad m l ls b) ∙ e in let q : m ≡ m + suc n = cc in absurd (omega arith))

-- refused at line n + 1: the n lines in front of it are good, and it is bad or lacks its newline
pub refused_at_line_iff : (bound n : ℕ) (book : List ℕ)
    → (check_of bound book ≡ refused_at Book (1 + n))
    ↔ ((length book ≤ max_book) × (are_good (take n (lines_in bound book)) ≡ true) × (drop n (lines_in bound book) ≡ None ∷ drop (suc n) (lines_in bound book)))
refused_at_line_iff bound n book = (
  λ e.
      let h = le-max_book_of_check_of bound book (refused_at Book (1 + n)) e (λ q. let z : 0 ≡ 1 + n = ap checked_line q in omega arith) in
      let p = at_first_bad 1 n (lines_in bound book) (some_of_checked_at (first_bad 1 (lines_in bound book)) (1 + n) (sym (check_of-within bound book h) ∙ e)) in
      (h, p.0, p.1),
  λ c. check_of-within bound book c.0 ∙ ap checked_at (first_bad_at 1 n (lines_in bound book) (c.1, c.2)),
)

-- refused at line 0: it is too long
pub refused_too_long_iff : (bound : ℕ) (book : List ℕ) → (check_of bound book ≡ refused_at Book 0) ↔ (max_book < length book)
unfolding check_of
refused_too_long_iff bound book = (
  λ e.
      by_test (leb (length book) max_book)
      (λ y.
      let f = sym (check_of-within bound book (leb-true (length book) max_book y)) ∙ e in
      absurd (omega (arith, le-first_bad 1 0 (lines_in bound book) (some_of_checked_at (first_bad 1 (lines_in bound book)) 0 f))))
      (λ n. leb-false (length book) max_book n),
  λ h. sym (check_of-long bound book h),
)

-- ---- lines joined to a book
pub ended_lines-line : (l t : List ℕ) → has newline l ≡ false → ended_lines (l ++ newline ∷ t) ≡ l ∷ ended_lines t
unfolding ended_lines
ended_lines-line [] t h = refl
ended_lines-line (b ∷ l) t h = let p = not_has_of_cons newline b l h in rw (p.0, ended_lines-line l t p.1)

pub ended_lines-joined : (ls : List (List ℕ)) → Lacking newline ls → ended_lines (joined ls) ≡ ls
unfolding joined ended_lines
ended_lines-joined [] h = refl
ended_lines-joined (l ∷ ls) h = ended_lines-line l (joined ls) h.0 ∙ ap (λ (t : List (List ℕ)). l ∷ t) (ended_lines-joined ls h.1)

pub left_joined : (ls : List (List ℕ)) → Lacking newline ls → left (joined ls) ≡ []
unfolding left
left_joined ls h =
    ap (λ (t : List (List ℕ)). drop (taken_by t) (joined ls)) (ended_lines-joined ls h) ∙ ap (λ (n : ℕ). drop n (joined ls)) (sym (length-joined ls)) ∙ drop-length (joined ls)

-- a line that is good holds no newline
pub not_has_newline_of_good : (bound : ℕ) (l : List ℕ) → is_good (line_of bound l) ≡ true → has newline l ≡ false
unfolding line_of
not_has_newline_of_good bound l g = by_test (has newline l) (λ y. absurd (false≢true (rw y at g))) (λ n. n)

pub lacking_of_good : (bound : ℕ) (ls : List (List ℕ)) → are_good (judged bound ls) ≡ true → Lacking newline ls
unfolding are_good judged
lacking_of_good bound [] g = tt
lacking_of_good bound (l ∷ ls) g =
    let p = both (is_good (line_of bound l)) (are_good (judged bound ls)) g in
    (not_has_newline_of_good bound l p.0, lacking_of_good bound ls p.1)

pub lacking-append : (a b : List (List ℕ)) → Lacking newline a → Lacking newline b → Lacking newline (a ++ b)
lacking-append [] b h k = k
lacking-append (l ∷ a) b h k = (h.0, lacking-append a b h.1 k)

pub judged-append : (bound : ℕ) (a b : List (List ℕ)) → judged bound (a ++ b) ≡ judged bound a ++ judged bound b
unfolding judged
judged-append bound [] b = refl
judged-append bound (l ∷ a) b = ap (λ (t : List (Option Line)). line_of bound l ∷ t) (judged-append bound a b)

-- lines without a newline, joined, are a good book exactly if each of them is good
pub joined_good_iff : (bound : ℕ) (ls : List (List ℕ)) → Lacking newline ls → length (joined ls) ≤ max_book → (check_of bound (joined ls) ≡ Ok tt) ↔ (are_good (judged bound ls) ≡ true)
joined_good_iff bound ls h k =
    let both_ways = good_book_iff bound (joined ls) in
    let e = ap (λ (t : List (List ℕ)). are_good (judged bound t)) (ended_lines-joined ls h) in (
      λ g. sym e ∙ (both_ways.0 g).2,
      λ g. both_ways.1 (k, left_joined ls h, e ∙ g),
    )

-- among good lines a line is good in the book exactly if it is good by itself
pub good_alone_iff_good_in_a_book : (bound : ℕ) (above : List (List ℕ)) (l : List ℕ) (below : List (List ℕ))
    → are_good (judged bound above) ≡ true → are_good (judged bound below) ≡ true → has newline l ≡ false → length (joined (above ++ l ∷ below)) ≤ max_book
    → (check_of bound (joined (above ++ l ∷ below)) ≡ Ok tt) ↔ (is_good (line_of bound l) ≡ true)
unfolding judged are_good
good_alone_iff_good_in_a_book bound above l below a b n h =
    let ls = above ++ l ∷ below in
    let e : are_good (judged bound ls) ≡ is_good (line_of bound l) =
    ap are_good (judged-append bound above (l ∷ below)) ∙ are_good-append (judged bound above) (judged bound (l ∷ below)) ∙ rw (a, b, and-true) in
    let p = joined_good_iff bound ls (lacking-append above (l ∷ below) (lacking_of_good bound above a) (n, lacking_of_good bound below b)) h in (
      λ g. sym e ∙ p.0 g,
      λ g. p.1 (e ∙ g),
    )

-- ---- the listing of a good book
pub good_of_hull : (x : Option Line) → is_hull_line x ≡ true → is_good x ≡ true
good_of_hull (Some (Hull h)) e = refl
good_of_hull (Some (Since x)) e = absurd (false≢true e)
good_of_hull None e = absurd (false≢true e)

module _ (bound : ℕ) where
  are_good-listed : (c : Option ℤ) (ls : List (List ℕ)) → are_good (judged bound (listed bound c ls)) ≡ true
  unfolding listed judged are_good
  are_good-listed c [] = refl
  are_good-listed c (l ∷ ls) =
      let x = line_of bound l in
      let below = are_good-listed (cut_off_below c x) ls in
      by_test (is_listed c x) (λ y. rw (y, good_of_hull x (hull_of_listed bound c x y)) below) (λ n. rw n below)

  -- so a room that is as long as the book is always long enough
  pub length-listing-le : (book : List ℕ) → length (listing bound book) ≤ length book
  unfolding listing
  length-listing-le book =
      let ls = ended_lines book in
      omega (
        arith,
        ap (λ (t : List (List ℕ)). length (joined t)) (listed_lines_in_order bound None ls),
        length-picked-le (marks_of bound None ls) ls,
        length-joined ls,
        taken_by-le book,
      )

  -- its lines are the lines that are listed
  pub ended_lines-listing : (book : List ℕ) → ended_lines (listing bound book) ≡ listed bound None (ended_lines book)
  unfolding listing
  ended_lines-listing book =
      let ls = listed bound None (ended_lines book) in
      ended_lines-joined ls (lacking_of_good bound ls (are_good-listed None (ended_lines book)))

  pub listing_is_a_good_book : (book : List ℕ) → check_of bound book ≡ Ok tt → check_of bound (listing bound book) ≡ Ok tt
  unfolding listing
  listing_is_a_good_book book e =
      let ls = listed bound None (ended_lines book) in
      let g : are_good (judged bound ls) ≡ true = are_good-listed None (ended_lines book) in
      (joined_good_iff bound ls (lacking_of_good bound ls g) (omega (arith, length-listing-le book, ((good_book_iff bound book).0 e).0))).1 g

  -- it has no `since` line
  not-since_of_hull : (x : Option Line) → is_hull_line x ≡ true → is_since_line x ≡ false
  not-since_of_hull (Some (Hull h)) e = refl
  not-since_of_hull (Some (Since x)) e = absurd (false≢true e)
  not-since_of_hull None e = absurd (false≢true e)

  has_since-listed : (c : Option ℤ) (ls : List (List ℕ)) → has_since bound (listed bound c ls) ≡ false
  unfolding listed has_since
  has_since-listed c [] = refl
  has_since-listed c (l ∷ ls) =
      let x = line_of bound l in
      let below = has_since-listed (cut_off_below c x) ls in
      by_test (is_listed c x) (λ y. rw (y, not-since_of_hull x (hull_of_listed bound c x y)) below) (λ n. rw n below)

  pub listing_lists_itself : (book : List ℕ) → listing bound (listing bound book) ≡ listing bound book
  unfolding listing
  listing_lists_itself book =
      let ls = listed bound None (ended_lines book) in
      ap (λ (t : List (List ℕ)). joined (listed bound None t)) (ended_lines-listing book)
      ∙ ap joined (no_since_lists_all_hulls bound ls (has_since-listed None (ended_lines book)) ∙ listed_lines_are_hulls bound None (ended_lines book))
