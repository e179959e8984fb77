-- A good book, from its last line to its first. In order: a line of it is good, and its lines are few; a line that is overtaken, and one that is
-- kept; the state of the walk from the start, by one line more, and at its end.
-- Assumes nothing.
use Rattle.std.specs.Prelude.{Ok}
use mathlib.Core.Path.{◌≡◌, refl, sym, ap, ◌∙◌}
use mathlib.Core.Bool.{Bool, true, false, cond, not, ◌||◌, false≢true}
use mathlib.Core.List.{List, [], ◌∷◌, ◌++◌}
use Prim.Native.Nat.{ℕ, suc, ◌+◌, ◌-◌, ◌≤◌, ◌<◌}
use native.Mathlib.Nat.{le_refl}
use native.Mathlib.Omega.{arith}
use borrow.Author.Tests.{ltb-true, ltb-false, lt-ltb}
use lib.Dec.{ltb}
use lib.ListN.{length, take, drop, get_or, set, length-set, length-append, take-append-drop}
use lib.Seq.{take-length, drop-length}
use Rattle.text.specs.Bytes.{same}
use Rattle.text.specs.Lines.{newline, ended_lines, left}
use Rattle.text.proofs.Lists.{by_test, both}
use Rattle.stamps.specs.Lines.{line_of, is_good}
use Rattle.stamps.specs.Book.{judged, check_of}
use Rattle.stamps.specs.Copies.{joined}
use Rattle.stamps.specs.Theorems.{are_good}
use Rattle.stamps.proofs.Printed.{eq_of_same}
use Rattle.stamps.proofs.Books.{are_good-append, taken_by-le, ended_lines-nil}
use Rattle.stamps.proofs.Marks.{lines_fit}
use Rattle.stamps.proofs.Listings.{good_book_iff, judged-append}
use Rattle.compact.specs.Compact.{holds_path, is_kept, kept, compacted}
use Rattle.compact.specs.Held.{path_at, bucket_of, line_at, lines_down, number_in, found_number, is_overtaken, IsTable}
use Rattle.stamps.proofs.WholeTexts.{ended_lines-append}
use Rattle.compact.proofs.LastLines.{LineBack}
use Rattle.compact.proofs.Paths.{holds_path-cons, is_kept_no_path, is_kept-path}
use Rattle.compact.proofs.Kept.{kept_dropped, kept_taken}
use Rattle.compact.proofs.Chains.{Down, lines_down-enter, found_number-enter, heads_enter, down_enter}

-- ---- the lines of a good book
-- a book cut at the place behind a newline
cut_lines : (book : List ℕ) (at : ℕ) → left (take at book) ≡ [] → ended_lines book ≡ ended_lines (take at book) ++ ended_lines (drop at book)
cut_lines book at e = ap ended_lines (sym (take-append-drop at book)) ∙ ended_lines-append (take at book) (drop at book) e

module _ (bound : ℕ) (book : List ℕ) (good : check_of bound book ≡ Ok tt) where
  are_good-drop : (at : ℕ) → left (take at book) ≡ [] → are_good (judged bound (ended_lines (drop at book))) ≡ true
  are_good-drop at e =
      let above = judged bound (ended_lines (take at book)) in
      let below = judged bound (ended_lines (drop at book)) in
      (both (are_good above) (are_good below)
      (sym (ap (λ (ls : List (List ℕ)). are_good (judged bound ls)) (cut_lines book at e) ∙ ap are_good (judged-append bound (ended_lines (take at book)) (ended_lines (drop at book))) ∙ are_good-append above below)
      ∙ ((good_book_iff bound book).0 good).2)).1

  few_lines : (at : ℕ) → left (take at book) ≡ [] → length (ended_lines (drop at book)) ≤ 5957
  few_lines at e =
      let all = (good_book_iff bound book).0 good in
      omega (
        arith,
        all.0,
        lines_fit bound (ended_lines book) all.2,
        taken_by-le book,
        ap length (cut_lines book at e),
        length-append (ended_lines (take at book)) (ended_lines (drop at book)),
      )

-- ---- the state of the walk: the lines from the place `at` on are done, and `count` of them are kept, with `size` bytes
pub record Keeping (bound : ℕ) (book heads links places : List ℕ) (at count size : ℕ) : Type 0 where
  pub within : at ≤ length book
  pub whole : left (take at book) ≡ []
  pub few : count ≤ length (ended_lines (drop at book))
  pub shorter : at + size ≤ length book
  pub lines_are : lines_down book places count ≡ kept bound (ended_lines (drop at book))
  pub size_is : size ≡ length (joined (kept bound (ended_lines (drop at book))))
  pub heads_le : (b : ℕ) → get_or heads b 0 ≤ count
  pub down : Down links count
  pub known : (p : List ℕ) → 0 < length p → ltb 0 (found_number book heads links places p) ≡ holds_path bound p (ended_lines (drop at book))
  pub head_places : length heads ≡ 2049
  pub link_places : length links ≡ 5957
  pub place_places : length places ≡ 5957

pub keeping_start : (bound : ℕ) (book heads links places : List ℕ) → check_of bound book ≡ Ok tt → ((b : ℕ) → get_or heads b 0 ≡ 0)
    → length heads ≡ 2049 → length links ≡ 5957 → length places ≡ 5957 → Keeping bound book heads links places (length book) 0 0
unfolding lines_down kept joined holds_path number_in
keeping_start bound book heads links places good none h l p =
    let d : ended_lines (drop (length book) book) ≡ [] = ap ended_lines (drop-length book) ∙ ended_lines-nil in
    record {
      within = le_refl (length book);
      whole = ap left (take-length book) ∙ ((good_book_iff bound book).0 good).1;
      few = omega arith;
      shorter = omega arith;
      lines_are = sym (ap (kept bound) d);
      size_is = sym (ap (λ (ls : List (List ℕ)). length (joined (kept bound ls))) d);
      heads_le = λ b. omega (arith, none b);
      down = λ k lt. absurd (omega arith);
      known = λ q some. ap (λ (k : ℕ). ltb 0 (number_in book links places q k k)) (none (bucket_of q)) ∙ sym (ap (holds_path bound q) d);
      head_places = h;
      link_places = l;
      place_places = p;
    }

-- a path that is overtaken is not empty, and it is found
found_of_overtaken : (book links places p : List ℕ) (first : ℕ) → is_overtaken book links places p first ≡ true → (0 < length p) × (ltb 0 (number_in book links places p first first) ≡ true)
unfolding is_overtaken
found_of_overtaken book links places [] first e = absurd (false≢true e)
found_of_overtaken book links places (b ∷ p) first e = (omega arith, e)

not-found_of_not-overtaken : (book links places p : List ℕ) (first : ℕ) → is_overtaken book links places p first ≡ false → 0 < length p → ltb 0 (number_in book links places p first first) ≡ false
unfolding is_overtaken
not-found_of_not-overtaken book links places [] first e some = absurd (omega arith)
not-found_of_not-overtaken book links places (b ∷ p) first e some = e

cond-or : (b : Bool) (n k : ℕ) → ltb 0 (cond b (suc n) k) ≡ (b || ltb 0 k)
cond-or true n k = lt-ltb 0 (suc n) (omega arith)
cond-or false n k = refl

or_of_true : (a b : Bool) → (a ≡ true → b ≡ true) → (a || b) ≡ b
or_of_true true b h = sym (h refl)
or_of_true false b h = refl

module _ {bound : ℕ} {book heads links places : List ℕ} {at count size : ℕ} (j : Keeping bound book heads links places at count size) where
  -- each kept line has a place
  pub count-le : check_of bound book ≡ Ok tt → count ≤ 5957
  count-le good = omega (arith, j.few, few_lines bound book good at j.whole)

  -- the walk is at its end
  pub keeping_end : check_of bound book ≡ Ok tt → at ≤ 0 → IsTable bound book heads links places count × (size ≡ length (compacted bound book))
  unfolding compacted
  keeping_end good h =
      let z : at ≡ 0 = omega arith in
      let e : drop at book ≡ book = ap (λ (k : ℕ). drop k book) z in (
        record {
          lines_are = j.lines_are ∙ ap (λ (s : List ℕ). kept bound (ended_lines s)) e;
          heads_le = j.heads_le;
          down = j.down;
          known = λ p some. j.known p some ∙ ap (λ (s : List ℕ). holds_path bound p (ended_lines s)) e;
          few = omega (arith, count-le good, j.place_places);
          head_places = j.head_places;
          link_places = j.link_places;
          place_places = j.place_places;
        },
        j.size_is ∙ ap (λ (s : List ℕ). length (joined (kept bound (ended_lines s)))) e,
      )

  module _ (good : check_of bound book ≡ Ok tt) (start : ℕ) (back : LineBack book at start) where
    abbrev l : List ℕ
    l = line_at book start

    abbrev below : List (List ℕ)
    below = ended_lines (drop at book)

    abbrev path : List ℕ
    path = path_at (drop start book)

    path_is : path ≡ path_at (l ++ newline ∷ drop at book)
    path_is = ap path_at back.text_is

    good_line : is_good (line_of bound l) ≡ true
    unfolding are_good judged
    good_line =
        (both (is_good (line_of bound l)) (are_good (judged bound below))
        (sym (ap (λ (ls : List (List ℕ)). are_good (judged bound ls)) back.lines_are) ∙ are_good-drop bound book good start back.whole)).0

    holds_cons : (p : List ℕ) → 0 < length p → holds_path bound p (ended_lines (drop start book)) ≡ (same path p || holds_path bound p below)
    holds_cons p some =
        ap (holds_path bound p) back.lines_are ∙ holds_path-cons bound l (newline ∷ drop at book) below good_line p some
        ∙ ap (λ (q : List ℕ). same q p || holds_path bound p below) (sym path_is)

    -- a line of the book that is not done yet has a place for it
    pub count-lt : count < 5957
    count-lt = omega (arith, j.few, few_lines bound book good start back.whole, ap length back.lines_are)

    -- the line is overtaken
    pub keeping_dropped : is_overtaken book links places path (get_or heads (bucket_of path) 0) ≡ true → Keeping bound book heads links places start count size
    keeping_dropped e =
        let found = found_of_overtaken book links places path (get_or heads (bucket_of path) 0) e in
        let held : holds_path bound path below ≡ true = sym (j.known path found.0) ∙ found.1 in
        let goes : is_kept bound l (line_of bound l) below ≡ false =
        is_kept-path bound l (newline ∷ drop at book) below good_line (rw (← path_is) found.0)
        ∙ ap (λ (q : List ℕ). not (holds_path bound q below)) (sym path_is) ∙ ap not held in
        let lines : kept bound (ended_lines (drop start book)) ≡ kept bound below = ap (kept bound) back.lines_are ∙ kept_dropped bound l below goes in
        record {
          within = omega (arith, j.within, back.size_is);
          whole = back.whole;
          few = omega (arith, j.few, ap length back.lines_are);
          shorter = omega (arith, j.shorter, back.size_is);
          lines_are = j.lines_are ∙ sym lines;
          size_is = j.size_is ∙ sym (ap (λ (ls : List (List ℕ)). length (joined ls)) lines);
          heads_le = j.heads_le;
          down = j.down;
          known = λ p some. j.known p some ∙ sym (holds_cons p some ∙ or_of_true (same path p) (holds_path bound p below) (λ y. ap (λ (q : List ℕ). holds_path bound q below) (sym (eq_of_same path p y)) ∙ held));
          head_places = j.head_places;
          link_places = j.link_places;
          place_places = j.place_places;
        }

    -- the line is kept
    module _ (e : is_overtaken book links places path (get_or heads (bucket_of path) 0) ≡ false) where
      stays : is_kept bound l (line_of bound l) below ≡ true
      stays =
          by_test (ltb 0 (length path))
          (λ y.
          let some : 0 < length path = ltb-true 0 (length path) y in
          is_kept-path bound l (newline ∷ drop at book) below good_line (rw (← path_is) some)
          ∙ ap (λ (q : List ℕ). not (holds_path bound q below)) (sym path_is)
          ∙ ap not (sym (j.known path some) ∙ not-found_of_not-overtaken book links places path (get_or heads (bucket_of path) 0) e some))
          (λ n. is_kept_no_path bound l (newline ∷ drop at book) below good_line (omega (arith, ltb-false 0 (length path) n, ap length path_is)))

      lines : kept bound (ended_lines (drop start book)) ≡ l ∷ kept bound below
      lines = ap (kept bound) back.lines_are ∙ kept_taken bound l below stays

      pub keeping_taken : (bucket : ℕ) → bucket ≡ bucket_of path → ((p : List ℕ) → bucket_of p < 2049)
          → (heads' links' places' : List ℕ) → heads' ≡ set heads bucket (count + 1) → links' ≡ set links count (get_or heads bucket 0) → places' ≡ set places count start
          → Keeping bound book heads' links' places' start (count + 1) (size + (at - start))
      unfolding joined
      keeping_taken bucket is small heads' links' places' hs ls ps =
          let head_in : (p : List ℕ) → bucket_of p < length heads = λ p. omega (arith, small p, j.head_places) in
          let link-in : count < length links = omega (arith, count-lt, j.link_places) in
          let place_in : count < length places = omega (arith, count-lt, j.place_places) in
          let hs-is : heads' ≡ set heads (bucket_of path) (count + 1) = hs ∙ ap (λ (b : ℕ). set heads b (count + 1)) is in
          let ls-is : links' ≡ set links count (get_or heads (bucket_of path) 0) = ls ∙ ap (λ (b : ℕ). set links count (get_or heads b 0)) is in
          record {
            within = omega (arith, j.within, back.size_is);
            whole = back.whole;
            few = omega (arith, j.few, ap length back.lines_are);
            shorter = omega (arith, j.shorter, back.size_is);
            lines_are = ap (λ (v : List ℕ). lines_down book v (count + 1)) ps ∙ lines_down-enter book places count start place_in ∙ ap (λ (v : List (List ℕ)). l ∷ v) j.lines_are ∙ sym lines;
            size_is = omega (arith, j.size_is, back.size_is, ap (λ (v : List (List ℕ)). length (joined v)) lines, length-append l (newline ∷ joined (kept bound below)));
            heads_le = λ b. rw hs-is (heads_enter book heads links places count start j.heads_le j.down head_in link-in place_in b);
            down = rw ls-is (down_enter book heads links places count start j.heads_le j.down head_in link-in place_in);
            known = λ p some.
                ap (ltb 0) ((λ i. found_number book (hs-is i) (ls-is i) (ps i) p) ∙ found_number-enter book heads links places count start j.heads_le j.down head_in link-in place_in p)
                ∙ cond-or (same path p) count (found_number book heads links places p) ∙ ap (λ (t : Bool). same path p || t) (j.known p some) ∙ sym (holds_cons p some);
            head_places = ap length hs ∙ length-set heads bucket (count + 1) ∙ j.head_places;
            link_places = ap length ls ∙ length-set links count (get_or heads bucket 0) ∙ j.link_places;
            place_places = ap length ps ∙ length-set places count start ∙ j.place_places;
          }
