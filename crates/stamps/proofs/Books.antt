-- Books, line by line. In order: the first line of a text that holds a newline, of one that holds none, and of the empty text;
-- lines and their bytes; the first bad line; a book without one; what a pass over a book finds, and what a check returns of it; the
-- next line; a book that is judged line by line, from the start, by one line more, and to the end.
-- Assumes nothing.
use Rattle.std.specs.Prelude.{None, Option, Some, ℤ, Ok, Err, Result}
use Rattle.std.specs.Option.{option_or}
use mathlib.Core.Path.{◌≡◌, refl, sym, ap, ◌∙◌}
use mathlib.Core.Bool.{Bool, true, false, cond, ◌&&◌, false≢true, and-true, and-false}
use mathlib.Core.List.{List, [], ◌∷◌, ◌++◌}
use Prim.Native.Nat.{ℕ, suc, ◌+◌, ◌≤◌, ◌<◌}
use native.Mathlib.Omega.{arith}
use native.Mathlib.Numerals.{add-one}
use borrow.Author.Tests.{ltb-true, ltb-false, lt-ltb, le-ltb, le-leb, lt-leb, eqb-true}
use lib.Dec.{ltb, eqb}
use lib.ListN.{length, take, drop, set, length-drop, length-set, length-append, drop_of_length-le, take-append-drop}
use lib.Seq.{drop-drop, sets}
use Rattle.text.specs.Places.{first_place, before, has}
use Rattle.text.specs.Lines.{newline, onto_first, ended_lines, taken_by, left}
use Rattle.time.specs.declared.Refusal.TheVariants.{Book}
use Rattle.text.proofs.Lists.{by_test, both}
use Rattle.text.proofs.Lines.{ended_lines-none, ended_lines-cut}
use Rattle.stamps.specs.Lines.{line_of, is_good}
use Rattle.stamps.specs.Book.{max_book, judged, lines_in, last_piece, first_bad, bad_number, good_front, check_of, refused_at}
use Rattle.stamps.specs.Copies.{joined}
use Rattle.stamps.specs.Listing.{is_listed, cut_off_in, or_above, cut_off_below, listed, listing}
use Rattle.stamps.specs.Theorems.{are_good}
use Rattle.stamps.specs.Held.{first_of, next_at, next_of, survey_at, survey_of, mark_of, marks_of}
use Rattle.stamps.specs.declared.line.Line.{Line}
use Rattle.stamps.specs.declared.line.Line.TheVariants.{Hull, Since}
use Rattle.stamps.specs.declared.line.First.{First}
use Rattle.stamps.specs.declared.book.Next.{Next}
use Rattle.stamps.specs.declared.book.BadLine.{BadLine}
use Rattle.stamps.proofs.Fields.{length_before}
use Rattle.stamps.proofs.Reading.{first_some, first_none}

-- what follows the first newline
abbrev pub behind : List ℕ → List ℕ
behind s = drop (first_place newline s + 1) s

-- ---- a text that holds a newline
module _ (s : List ℕ) (h : has newline s ≡ true) where
  pub first_place-lt : first_place newline s < length s
  unfolding has
  first_place-lt = ltb-true _ _ h

  pub ended_lines-first : ended_lines s ≡ before newline s ∷ ended_lines (behind s)
  ended_lines-first = rw add-one (ended_lines-cut s (first_place newline s) refl first_place-lt)

  pub left_first : left s ≡ left (behind s)
  unfolding left taken_by
  left_first =
      let n = taken_by (ended_lines (behind s)) in
      let e : length (before newline s) + 1 + n ≡ first_place newline s + 1 + n = omega (arith, length_before newline s) in
      ap (λ (ls : List (List ℕ)). drop (taken_by ls) s) ended_lines-first ∙ ap (λ (k : ℕ). drop k s) e ∙ sym (drop-drop n (first_place newline s + 1) s)

  pub lines_in-first : (bound : ℕ) → lines_in bound s ≡ line_of bound (before newline s) ∷ lines_in bound (behind s)
  unfolding lines_in judged
  lines_in-first bound = (λ i. judged bound (ended_lines-first i) ++ last_piece (left_first i))

-- ---- a text that holds none
pub ended_lines-open : (s : List ℕ) → has newline s ≡ false → ended_lines s ≡ []
unfolding has
ended_lines-open s h = ended_lines-none s (ltb-false _ _ h)

pub left_open : (s : List ℕ) → ended_lines s ≡ [] → left s ≡ s
unfolding left taken_by
left_open s e = ap (λ (ls : List (List ℕ)). drop (taken_by ls) s) e

pub lines_in-open : (bound : ℕ) (s : List ℕ) → ended_lines s ≡ [] → lines_in bound s ≡ last_piece s
unfolding lines_in judged
lines_in-open bound s e = (λ i. judged bound (e i) ++ last_piece (left_open s e i))

pub ended_lines-nil : ended_lines [] ≡ []
unfolding ended_lines
ended_lines-nil = refl

-- ---- lines and their bytes
pub length-joined : (ls : List (List ℕ)) → length (joined ls) ≡ taken_by ls
unfolding joined taken_by
length-joined [] = refl
length-joined (l ∷ ls) = omega (arith, length-append l (newline ∷ joined ls), length-joined ls)

joined-onto_first : (b : ℕ) (s : List ℕ) (ls : List (List ℕ)) → joined ls ≡ take (taken_by ls) s → joined (onto_first b ls) ≡ take (taken_by (onto_first b ls)) (b ∷ s)
unfolding joined taken_by
joined-onto_first b s [] e = refl
joined-onto_first b s (l ∷ ls) e =
    let n : suc (length l + 1 + taken_by ls) ≡ suc (length l) + 1 + taken_by ls = omega arith in
    ap (λ (t : List ℕ). b ∷ t) e ∙ ap (λ (k : ℕ). take k (b ∷ s)) n

pub joined-take : (s : List ℕ) → joined (ended_lines s) ≡ take (taken_by (ended_lines s)) s
unfolding ended_lines joined taken_by
joined-take [] = refl
joined-take (b ∷ s) =
    let n : suc (taken_by (ended_lines s)) ≡ 0 + 1 + taken_by (ended_lines s) = omega arith in
    by_test (eqb b newline)
    (λ e. rw e ((λ i. sym (eqb-true b newline e) i ∷ joined-take s i) ∙ ap (λ (k : ℕ). take k (b ∷ s)) n))
    (λ e. rw e (joined-onto_first b s (ended_lines s) (joined-take s)))

-- a text is its lines, and what is left behind them
pub joined-ended_lines : (s : List ℕ) → joined (ended_lines s) ++ left s ≡ s
unfolding left
joined-ended_lines s = ap (λ (t : List ℕ). t ++ drop (taken_by (ended_lines s)) s) (joined-take s) ∙ take-append-drop (taken_by (ended_lines s)) s

pub taken_by-le : (s : List ℕ) → taken_by (ended_lines s) ≤ length s
taken_by-le s = omega (arith, ap length (joined-ended_lines s), length-append (joined (ended_lines s)) (left s), length-joined (ended_lines s))

-- ---- the first bad line
pub first_bad-good : (n : ℕ) (l : Option Line) (ls : List (Option Line)) → is_good l ≡ true → first_bad n (l ∷ ls) ≡ first_bad (suc n) ls
unfolding first_bad
first_bad-good n (Some (Hull h)) ls g = refl
first_bad-good n (Some (Since x)) ls g = refl
first_bad-good n None ls g = absurd (false≢true g)

pub first_bad-bad : (n : ℕ) (l : Option Line) (ls : List (Option Line)) → is_good l ≡ false → first_bad n (l ∷ ls) ≡ Some n
unfolding first_bad
first_bad-bad n (Some (Hull h)) ls g = absurd (false≢true (sym g))
first_bad-bad n (Some (Since x)) ls g = absurd (false≢true (sym g))
first_bad-bad n None ls g = refl

-- it has the number n or a later one
pub le-first_bad : (n m : ℕ) (ls : List (Option Line)) → first_bad n ls ≡ Some m → n ≤ m
unfolding first_bad
le-first_bad n m [] e = let z : ◌≡◌ {A = ℕ} 0 1 = cc in absurd (omega arith)
le-first_bad n m (Some (Hull h) ∷ ls) e = omega (arith, le-first_bad (suc n) m ls e)
le-first_bad n m (Some (Since x) ∷ ls) e = omega (arith, le-first_bad (suc n) m ls e)
le-first_bad n m (None ∷ ls) e = let q : n ≡ m = cc in omega arith

-- lines are counted from 1, so 0 is the number of none
pub first_bad_of_zero : (ls : List (Option Line)) → bad_number (first_bad 1 ls) ≡ 0 → first_bad 1 ls ≡ None
first_bad_of_zero ls z = told (first_bad 1 ls) refl z
  where
    told : (x : Option ℕ) → first_bad 1 ls ≡ x → bad_number x ≡ 0 → x ≡ None
    told (Some m) e z = absurd (omega (arith, le-first_bad 1 m ls e))
    told None e z = refl

first_bad-last : (n : ℕ) (s : List ℕ) → 0 < length s → first_bad n (last_piece s) ≡ Some n
unfolding first_bad
first_bad-last n [] h = absurd (omega arith)
first_bad-last n (b ∷ s) h = refl

module _ (bound n : ℕ) (s : List ℕ) where
  pub first_bad-first : (is_good (line_of bound (before newline s)) && has newline s) ≡ true → first_bad n (lines_in bound s) ≡ first_bad (suc n) (lines_in bound (behind s))
  first_bad-first e =
      let p = both _ _ e in
      ap (first_bad n) (lines_in-first s p.1 bound) ∙ first_bad-good n (line_of bound (before newline s)) (lines_in bound (behind s)) p.0

  -- the first line is bad, or it has no newline
  pub first_bad-stop : 0 < length s → (is_good (line_of bound (before newline s)) && has newline s) ≡ false → first_bad n (lines_in bound s) ≡ Some n
  first_bad-stop some e =
      by_test (has newline s)
      (λ h. ap (first_bad n) (lines_in-first s h bound) ∙ first_bad-bad n (line_of bound (before newline s)) (lines_in bound (behind s)) (rw (h, and-true) at e))
      (λ h. ap (first_bad n) (lines_in-open bound s (ended_lines-open s h)) ∙ first_bad-last n s some)

-- ---- good lines
first_bad_of_good : (n : ℕ) (ls : List (Option Line)) → are_good ls ≡ true → first_bad n ls ≡ None
unfolding are_good first_bad
first_bad_of_good n [] g = refl
first_bad_of_good n (l ∷ ls) g = let p = both (is_good l) (are_good ls) g in first_bad-good n l ls p.0 ∙ first_bad_of_good (suc n) ls p.1

good_of_first_bad : (n : ℕ) (ls : List (Option Line)) → first_bad n ls ≡ None → are_good ls ≡ true
unfolding are_good first_bad
good_of_first_bad n [] e = refl
good_of_first_bad n (Some (Hull h) ∷ ls) e = good_of_first_bad (suc n) ls e
good_of_first_bad n (Some (Since x) ∷ ls) e = good_of_first_bad (suc n) ls e
good_of_first_bad n (None ∷ ls) e = let z : ◌≡◌ {A = ℕ} 0 1 = cc in absurd (omega arith)

pub are_good-append : (a b : List (Option Line)) → are_good (a ++ b) ≡ (are_good a && are_good b)
unfolding are_good
are_good-append [] b = refl
are_good-append (l ∷ a) b = by_test (is_good l) (λ e. rw (e, are_good-append a b)) (λ e. rw e)

are_good-last_piece : (s : List ℕ) → are_good (last_piece s) ≡ true → s ≡ []
unfolding are_good
are_good-last_piece [] g = refl
are_good-last_piece (b ∷ s) g = absurd (false≢true g)

module _ (bound : ℕ) (book : List ℕ) where
  -- no line of a book is bad exactly if the lines that have their end are good and nothing is left behind them
  pub good_book : first_bad 1 (lines_in bound book) ≡ None → (are_good (judged bound (ended_lines book)) ≡ true) × (left book ≡ [])
  unfolding lines_in
  good_book e =
      let lines = judged bound (ended_lines book) in
      let p = both (are_good lines) (are_good (last_piece (left book))) (sym (are_good-append lines (last_piece (left book))) ∙ good_of_first_bad 1 (lines_in bound book) e) in
      (p.0, are_good-last_piece (left book) p.1)

  pub book_of_good : are_good (judged bound (ended_lines book)) ≡ true → left book ≡ [] → first_bad 1 (lines_in bound book) ≡ None
  unfolding lines_in are_good
  book_of_good g e = first_bad_of_good 1 (lines_in bound book) (are_good-append (judged bound (ended_lines book)) (last_piece (left book)) ∙ rw (g, e))

good_front_of_good : (bound : ℕ) (ls : List (List ℕ)) → are_good (judged bound ls) ≡ true → good_front bound ls ≡ ls
unfolding judged are_good good_front
good_front_of_good bound [] g = refl
good_front_of_good bound (l ∷ ls) g = let p = both (is_good (line_of bound l)) (are_good (judged bound ls)) g in rw (p.0, good_front_of_good bound ls p.1)

-- the good lines of a text without a bad one are all of it
pub whole_front : (bound : ℕ) (s : List ℕ) → first_bad 1 (lines_in bound s) ≡ None → length s ≡ taken_by (good_front bound (ended_lines s))
whole_front bound s e =
    let p = good_book bound s e in
    let ls = ended_lines s in
    omega (arith, ap length (joined-ended_lines s), length-append (joined ls) (left s), length-joined ls, ap length p.1, ap taken_by (good_front_of_good bound ls p.0))

-- ---- what a pass over a book finds
survey_at-ok : (x : Option ℕ) (start size n : ℕ) → survey_at x start size ≡ Ok n → (x ≡ None) × (n ≡ size)
survey_at-ok (Some m) start size n e = let z : ◌≡◌ {A = ℕ} 0 1 = cc in absurd (omega arith)
survey_at-ok None start size n e = let k : n ≡ size = cc in (refl, k)

survey_at-err : (x : Option ℕ) (start size : ℕ) (b : BadLine) → survey_at x start size ≡ Err b → (x ≡ Some b.number) × (b.start ≡ start)
survey_at-err (Some m) start size b e = let p : record { number = m; start = start } ≡ b = cc in (ap (λ (v : BadLine). Some v.number) p, sym (ap (λ (v : BadLine). v.start) p))
survey_at-err None start size b e = let z : ◌≡◌ {A = ℕ} 0 1 = cc in absurd (omega arith)

module _ (bound : ℕ) (book : List ℕ) where
  pub survey_ok : (n : ℕ) → survey_of bound book ≡ Ok n → (first_bad 1 (lines_in bound book) ≡ None) × (n ≡ length (listing bound book))
  survey_ok n e = survey_at-ok (first_bad 1 (lines_in bound book)) _ (length (listing bound book)) n e

  pub survey_err : (b : BadLine) → survey_of bound book ≡ Err b → (first_bad 1 (lines_in bound book) ≡ Some b.number) × (b.start ≡ taken_by (good_front bound (ended_lines book)))
  survey_err b e = survey_at-err (first_bad 1 (lines_in bound book)) (taken_by (good_front bound (ended_lines book))) _ b e

-- ---- what a check returns, by the first bad line
module _ (bound : ℕ) (book : List ℕ) where
  pub check_of-long : max_book < length book → refused_at Book 0 ≡ check_of bound book
  unfolding check_of
  check_of-long h = rw (lt-leb _ _ h)

  pub check_of-good : length book ≤ max_book → first_bad 1 (lines_in bound book) ≡ None → Ok tt ≡ check_of bound book
  unfolding check_of
  check_of-good within e = rw (le-leb _ _ within, e)

  pub check_of-bad : (n : ℕ) → length book ≤ max_book → first_bad 1 (lines_in bound book) ≡ Some n → refused_at Book n ≡ check_of bound book
  unfolding check_of
  check_of-bad n within e = rw (le-leb _ _ within, e)

-- ---- the next line of a book, by the first line of what is left
good_some : (l : Line) → is_good (Some l) ≡ true
good_some (Hull h) = refl
good_some (Since x) = refl

module _ (bound : ℕ) (s : List ℕ) (c : Option ℤ) where
  pub next_bad : first_of bound s ≡ None → None ≡ next_of bound s c
  next_bad e = rw (first_none (first_place newline s) (line_of bound (before newline s)) e)

  module _ (first : First) (e : first_of bound s ≡ Some first) where
    pub next_good : first.length < length s → Some (next_at (first.length + 1) c (Some first.line)) ≡ next_of bound s c
    unfolding has
    next_good h =
        let p = first_some (first_place newline s) (line_of bound (before newline s)) first e in
        let g : is_good (line_of bound (before newline s)) ≡ true = ap is_good p.0 ∙ good_some first.line in
        let t : ltb (first_place newline s) (length s) ≡ true = lt-ltb _ _ (omega (arith, p.1)) in
        rw (g, t) (λ i. Some (next_at (p.1 i + 1) c (sym p.0 i)))

    pub next_open : length s ≤ first.length → None ≡ next_of bound s c
    unfolding has
    next_open h =
        let p = first_some (first_place newline s) (line_of bound (before newline s)) first e in
        let t : ltb (first_place newline s) (length s) ≡ false = le-ltb _ _ (omega (arith, p.1)) in
        rw (t, and-false)

  record NextIs (next : Next) : Type 0 where
    is_whole : (is_good (line_of bound (before newline s)) && has newline s) ≡ true
    size_is : next.size ≡ first_place newline s + 1
    listed_is : next.listed ≡ is_listed c (line_of bound (before newline s))
    cut_off_is : next.cut_off ≡ cut_off_in (line_of bound (before newline s))

  next_is : (next : Next) → next_of bound s c ≡ Some next → NextIs next
  next_is next e =
      let l = line_of bound (before newline s) in
      by_test (is_good l && has newline s)
      (λ y.
      let k = rw y at e in
      let p : next ≡ next_at (first_place newline s + 1) c l = cc in
      record { is_whole = y; size_is = ap (λ (v : Next). v.size) p; listed_is = ap (λ (v : Next). v.listed) p; cut_off_is = ap (λ (v : Next). v.cut_off) p })
      (λ y. let k = rw y at e in let z : ◌≡◌ {A = ℕ} 0 1 = cc in absurd (omega arith))

  pub next_size-pos : (next : Next) → next_of bound s c ≡ Some next → 0 < next.size
  next_size-pos next e = let f = next_is next e in omega (arith, f.size_is)

  next_is_none : next_of bound s c ≡ None → (is_good (line_of bound (before newline s)) && has newline s) ≡ false
  next_is_none e =
      by_test (is_good (line_of bound (before newline s)) && has newline s) (λ y. let k = rw y at e in let z : ◌≡◌ {A = ℕ} 0 1 = cc in absurd (omega arith)) (λ y. y)

-- ---- a book judged line by line
-- n lines, which end at the place `at`, are good. Their part of the listing has `size` bytes, and c is the cut-off below them
pub record Judging (bound : ℕ) (book was marks : List ℕ) (at n size : ℕ) (c : Option ℤ) : Type 0 where
  pub within : at ≤ length book
  pub fewer : n ≤ at
  pub shorter : size ≤ at
  pub bad : first_bad 1 (lines_in bound book) ≡ first_bad (n + 1) (lines_in bound (drop at book))
  pub front : taken_by (good_front bound (ended_lines book)) ≡ at + taken_by (good_front bound (ended_lines (drop at book)))
  pub length_is : length (listing bound book) ≡ size + length (joined (listed bound c (ended_lines (drop at book))))
  pub marked : sets was 0 (marks_of bound None (ended_lines book)) ≡ sets marks n (marks_of bound c (ended_lines (drop at book)))
  pub places : length marks ≡ length was

pub judging_start : (bound : ℕ) (book marks : List ℕ) → Judging bound book marks marks 0 0 0 None
unfolding listing
judging_start bound book marks = record { within = omega arith; fewer = omega arith; shorter = omega arith; bad = refl; front = omega arith; length_is = omega arith; marked = refl; places = refl }

-- a line more adds its bytes and its newline to the listing if it is listed
length-listed-cons : (bound : ℕ) (c : Option ℤ) (l : List ℕ) (ls : List (List ℕ))
    → length (joined (listed bound c (l ∷ ls))) ≡ cond (is_listed c (line_of bound l)) (length l + 1) 0 + length (joined (listed bound (cut_off_below c (line_of bound l)) ls))
unfolding listed joined
length-listed-cons bound c l ls =
    let below = joined (listed bound (cut_off_below c (line_of bound l)) ls) in
    by_test (is_listed c (line_of bound l)) (λ e. rw e (omega (arith, length-append l (newline ∷ below)))) (λ e. rw e (omega arith))

cond-zero-le : (b : Bool) (n : ℕ) → cond b n 0 ≤ n
cond-zero-le true n = omega arith
cond-zero-le false n = omega arith

-- the good lines at the front of a text: of one whose first line is good, of one whose first line is bad or has no newline
module _ (bound : ℕ) (s : List ℕ) where
  pub good_front-first : (is_good (line_of bound (before newline s)) && has newline s) ≡ true
      → taken_by (good_front bound (ended_lines s)) ≡ first_place newline s + 1 + taken_by (good_front bound (ended_lines (behind s)))
  unfolding good_front taken_by
  good_front-first e =
      let p = both (is_good (line_of bound (before newline s))) (has newline s) e in
      ap (λ (ls : List (List ℕ)). taken_by (good_front bound ls)) (ended_lines-first s p.1) ∙ rw (p.0, length_before newline s)

  pub good_front-stop : (is_good (line_of bound (before newline s)) && has newline s) ≡ false → taken_by (good_front bound (ended_lines s)) ≡ 0
  unfolding good_front taken_by
  good_front-stop e =
      by_test (has newline s)
      (λ h. let bad : is_good (line_of bound (before newline s)) ≡ false = rw (h, and-true) at e in ap (λ (ls : List (List ℕ)). taken_by (good_front bound ls)) (ended_lines-first s h) ∙ rw bad)
      (λ h. ap (λ (ls : List (List ℕ)). taken_by (good_front bound ls)) (ended_lines-open s h))

-- std's word for it
pub or_is : (x y : Option ℤ) → option_or x y ≡ or_above x y
or_is (Some c) y = refl
or_is None y = refl

-- the length of a listing with a line that is listed, and with one that is not
pub with_listed : (listed : Bool) (n size : ℕ) → listed ≡ true → size + n ≡ size + cond listed n 0
with_listed listed n size e = rw e refl

pub without_listed : (listed : Bool) (n size : ℕ) → listed ≡ false → size ≡ size + cond listed n 0
without_listed listed n size e = rw e (omega arith)

-- what a pass over the book returns and marks
pub record Judged (bound : ℕ) (book was marks : List ℕ) (r : Result ℕ BadLine) : Type 0 where
  pub value : r ≡ survey_of bound book
  pub marks_after : first_bad 1 (lines_in bound book) ≡ None → marks ≡ sets was 0 (marks_of bound None (ended_lines book))

module _ {bound : ℕ} {book was marks : List ℕ} {at n size : ℕ} {c : Option ℤ} (j : Judging bound book was marks at n size c) where
  -- no line is left
  pub judging_end : length book ≤ at → Judged bound book was marks (Ok size)
  unfolding lines_in judged left taken_by first_bad listed joined marks_of
  judging_end h =
      let d : drop at book ≡ [] = drop_of_length-le book h in
      let e : ended_lines (drop at book) ≡ [] = ap ended_lines d ∙ ended_lines-nil in
      let none : first_bad 1 (lines_in bound book) ≡ None =
      j.bad ∙ ap (λ (s : List ℕ). first_bad (n + 1) (lines_in bound s)) d ∙ ap (first_bad (n + 1)) (lines_in-open bound [] ended_lines-nil) in
      let k : size ≡ length (listing bound book) = omega (arith, j.length_is, ap (λ (ls : List (List ℕ)). length (joined (listed bound c ls))) e) in
      record {
        value = rw none (ap Ok k);
        marks_after = λ z. sym (j.marked ∙ ap (λ (ls : List (List ℕ)). sets marks n (marks_of bound c ls)) e);
      }

  module _ (s : List ℕ) (is : s ≡ drop at book) (some : at < length book) where
    -- the next line is bad
    pub judging_stop : next_of bound s c ≡ None → Judged bound book was marks (Err (record { number = n + 1; start = at }))
    judging_stop none =
        let l : 0 < length s = omega (arith, ap length is, length-drop at book) in
        let e = next_is_none bound s c none in
        let bad : first_bad 1 (lines_in bound book) ≡ Some (n + 1) =
        j.bad ∙ ap (λ (t : List ℕ). first_bad (n + 1) (lines_in bound t)) (sym is) ∙ first_bad-stop bound (n + 1) s l e in
        let start : at ≡ taken_by (good_front bound (ended_lines book)) =
        omega (arith, j.front, ap (λ (t : List ℕ). taken_by (good_front bound (ended_lines t))) is, good_front-stop bound s e) in
        record { value = rw bad (λ i. Err (record { number = n + 1; start = start i })); marks_after = λ z. let q : ◌≡◌ {A = ℕ} 0 1 = cc in absurd (omega arith) }

    -- the next line is good
    pub judging_again : (next : Next) → next_of bound s c ≡ Some next → (marks' : List ℕ) (size' : ℕ) → marks' ≡ set marks n (mark_of next.listed) → size' ≡ size + cond next.listed next.size 0
        → (below : Option ℤ) → below ≡ or_above next.cut_off c → Judging bound book was marks' (at + next.size) (n + 1) size' below
    unfolding marks_of
    judging_again next next-is marks' size' set_is size'-is below below-is =
        let f = next_is bound s c next next-is in
        let e = f.is_whole in
        let h = (both (is_good (line_of bound (before newline s))) (has newline s) e).1 in
        let l = before newline s in
        let e-l : next.size ≡ length l + 1 = omega (arith, f.size_is, length_before newline s) in
        let d : behind s ≡ drop (at + next.size) book = (λ i. drop (sym f.size_is i) (is i)) ∙ drop-drop next.size at book in
        let rest = ended_lines (drop (at + next.size) book) in
        let cut : ended_lines (drop at book) ≡ l ∷ rest = ap ended_lines (sym is) ∙ ended_lines-first s h ∙ ap (λ (t : List ℕ). l ∷ ended_lines t) d in
        let m : suc (n + 1) ≡ n + 1 + 1 = omega arith in
        let e-c : below ≡ cut_off_below c (line_of bound l) = below-is ∙ ap (λ (x : Option ℤ). or_above x c) f.cut_off_is in
        let added : size' ≡ size + cond (is_listed c (line_of bound l)) (length l + 1) 0 = size'-is ∙ (λ i. size + cond (f.listed_is i) (e-l i) 0) in
        record {
          within = omega (arith, first_place-lt s h, ap length is, length-drop at book, j.within);
          fewer = omega (arith, j.fewer);
          shorter = omega (arith, j.shorter, cond-zero-le next.listed next.size);
          bad = j.bad ∙ ap (λ (t : List ℕ). first_bad (n + 1) (lines_in bound t)) (sym is) ∙ first_bad-first bound (n + 1) s e
              ∙ (λ i. first_bad (m i) (lines_in bound (d i)));
          front = omega (
            arith,
            j.front,
            ap (λ (t : List ℕ). taken_by (good_front bound (ended_lines t))) is,
            good_front-first bound s e,
            ap (λ (t : List ℕ). taken_by (good_front bound (ended_lines t))) d,
          );
          length_is = omega (
            arith,
            j.length_is,
            ap (λ (ls : List (List ℕ)). length (joined (listed bound c ls))) cut,
            length-listed-cons bound c l rest,
            ap (λ (x : Option ℤ). length (joined (listed bound x rest))) e-c,
          );
          marked = j.marked ∙ ap (λ (ls : List (List ℕ)). sets marks n (marks_of bound c ls)) cut
              ∙ (λ i. sets (set marks n (mark_of (sym f.listed_is i))) (sym (add-one n) i) (marks_of bound (sym e-c i) rest))
              ∙ ap (λ (ms : List ℕ). sets ms (n + 1) (marks_of bound below rest)) (sym set_is);
          places = ap length set_is ∙ length-set marks n (mark_of next.listed) ∙ j.places;
        }
