-- Marks of lines. In order: the marks of lines pick those that are listed; a good line has at least 10 bytes, so that the marks
-- of a good book have their places; marked lines that are copied one after the other, from the start, by one line more, and to
-- the end.
-- Assumes nothing.
use Rattle.std.specs.Prelude.{None, Option, ℤ}
use mathlib.Core.Path.{◌≡◌, refl, sym, ap, ◌∙◌}
use mathlib.Core.Bool.{Bool, true, cond, ◌&&◌, false≢true}
use mathlib.Core.List.{List, [], ◌∷◌, ◌++◌, append_assoc}
use Prim.Native.Nat.{ℕ, suc, ◌+◌, ◌*◌, ◌≤◌, ◌<◌}
use native.Mathlib.Nat.{zero-add}
use native.Mathlib.Omega.{arith}
use native.Mathlib.Numerals.{add-one}
use borrow.Author.Tests.{ltb-true, ltb-false, eqb-true}
use lib.Dec.{ltb, eqb}
use lib.ListN.{length, take, drop, get_or, set, length-take, length-drop, length-append, drop_of_length-le}
use lib.Seq.{drop-drop, take-suc, sets, sets-eq, length-sets}
use Rattle.text.specs.Bytes.{same}
use Rattle.text.specs.Quote.{bytes}
use Rattle.text.specs.Number.{signed_of}
use Rattle.text.specs.Places.{first_place, before, has}
use Rattle.text.specs.Lines.{tab, newline, field, rest, ended_lines, taken_by, left}
use Rattle.text.proofs.Lists.{by_test, both, drop-cons-add-one, get_or_of_length-le}
use Rattle.text.proofs.FirstPlaces.{get_or-first_place}
use Rattle.stamps.specs.Stamps.{printed}
use Rattle.stamps.specs.Lines.{every, is_path, is_hex_digit, is_key, hull_of, since_of, line_of, is_good}
use Rattle.stamps.specs.Book.{max_book, judged, lines_in, first_bad}
use Rattle.stamps.specs.Theorems.{are_good}
use Rattle.stamps.specs.Copies.{joined}
use Rattle.stamps.specs.Listing.{is_listed, cut_off_below, listed, listing}
use Rattle.stamps.specs.Held.{marks_of, picked}
use Rattle.stamps.proofs.Printed.{eq_of_same}
use Rattle.stamps.proofs.SinceLines.{since_with_no_offset}
use Rattle.stamps.proofs.Books.{taken_by-le, good_book, behind, first_place-lt, ended_lines-first, left_first, ended_lines-open, left_open, ended_lines-nil}

-- ---- the marks of lines pick those that are listed
pub picked-marks_of : (bound : ℕ) (c : Option ℤ) (ls : List (List ℕ)) (more : List ℕ) → picked (marks_of bound c ls ++ more) ls ≡ listed bound c ls
unfolding marks_of picked listed
picked-marks_of bound c [] [] = refl
picked-marks_of bound c [] (m ∷ more) = refl
picked-marks_of bound c (l ∷ ls) more =
    by_test (is_listed c (line_of bound l)) (λ e. rw (e, picked-marks_of bound (cut_off_below c (line_of bound l)) ls more))
    (λ e. rw (e, picked-marks_of bound (cut_off_below c (line_of bound l)) ls more))

length-marks_of : (bound : ℕ) (c : Option ℤ) (ls : List (List ℕ)) → length (marks_of bound c ls) ≡ length ls
unfolding marks_of
length-marks_of bound c [] = refl
length-marks_of bound c (l ∷ ls) = ap suc (length-marks_of bound (cut_off_below c (line_of bound l)) ls)

-- set in a buffer that has a place for each
picked_sets : (bound : ℕ) (ls : List (List ℕ)) (ms : List ℕ) → length ls ≤ length ms → picked (sets ms 0 (marks_of bound None ls)) ls ≡ listed bound None ls
picked_sets bound ls ms h =
    let marks = marks_of bound None ls in
    ap (λ (v : List ℕ). picked v ls) (sets-eq marks ms 0 (omega (arith, length-marks_of bound None ls))) ∙ picked-marks_of bound None ls (drop (0 + length marks) ms)

-- ---- a good line has at least 10 bytes
-- a field, its tab and what follows
length-field_rest : (s : List ℕ) → 0 < length (rest s) → length s ≡ length (field s) + 1 + length (rest s)
length-field_rest s h = omega (arith, length-drop (first_place tab s + 1) s, length-take (first_place tab s) s)

since_numbers : (bound : ℕ) (text seconds offset : List ℕ) → is_good (since_of bound text seconds offset) ≡ true → (0 < length seconds) × (0 < length offset)
unfolding since_of printed signed_of
since_numbers bound text [] offset g = absurd (false≢true g)
since_numbers bound text (b ∷ s) [] g = absurd (false≢true (sym (ap is_good (since_with_no_offset bound text (printed (b ∷ s)))) ∙ g))
since_numbers bound text (b ∷ s) (x ∷ t) g = (omega arith, omega arith)

-- `since`, three tabs and two numbers
since-length : (bound : ℕ) (l : List ℕ) → length (field l) ≡ 5 → is_good (since_of bound (field (rest l)) (field (rest (rest l))) (rest (rest (rest l)))) ≡ true → 10 ≤ length l
since-length bound l f g =
    let n = since_numbers bound (field (rest l)) (field (rest (rest l))) (rest (rest (rest l))) g in
    let three : length (rest (rest l)) ≡ length (field (rest (rest l))) + 1 + length (rest (rest (rest l))) = length-field_rest (rest (rest l)) n.1 in
    let two : length (rest l) ≡ length (field (rest l)) + 1 + length (rest (rest l)) = length-field_rest (rest l) (omega arith) in
    let one : length l ≡ length (field l) + 1 + length (rest l) = length-field_rest l (omega arith) in
    omega (arith, n.0, n.1)

-- a key alone has 16 bytes
hull-length : (l time : List ℕ) → is_good (hull_of (field (rest l)) (field (rest (rest l))) time) ≡ true → 10 ≤ length l
unfolding hull_of is_key
hull-length l time g =
    let key = field (rest (rest l)) in
    by_test (is_path (field (rest l)) && is_key key)
    (λ e.
    let k : length key ≡ 16 = eqb-true _ _ (both (eqb (length key) 16) (every is_hex_digit key) (both (is_path (field (rest l))) (is_key key) e).1).0 in
    omega (arith, length-take (first_place tab (rest (rest l))) (rest (rest l)), length-drop (first_place tab (rest l) + 1) (rest l), length-drop (first_place tab l + 1) l))
    (λ e. absurd (false≢true (rw e at g)))

length-good : (bound : ℕ) (l : List ℕ) → is_good (line_of bound l) ≡ true → 10 ≤ length l
unfolding line_of
length-good bound l g =
    by_test (has newline l) (λ e. absurd (false≢true (rw e at g)))
    (λ e.
    by_test (same (field l) (bytes "hull")) (λ h. hull-length l (rest (rest (rest l))) (rw (e, h) at g))
    (λ h.
    by_test (same (field l) (bytes "since")) (λ k. since-length bound l (ap length (eq_of_same (field l) (bytes "since") k)) (rw (e, h, k) at g))
    (λ k. absurd (false≢true (rw (e, h, k) at g)))))

-- so each takes at least 11 bytes of a book
pub lines_fit : (bound : ℕ) (ls : List (List ℕ)) → are_good (judged bound ls) ≡ true → 11 * length ls ≤ taken_by ls
unfolding are_good judged taken_by
lines_fit bound [] g = omega arith
lines_fit bound (l ∷ ls) g = let p = both (is_good (line_of bound l)) (are_good (judged bound ls)) g in omega (arith, length-good bound l p.0, lines_fit bound ls p.1)

-- the marks of a good book pick its listing
pub marked_book : (bound : ℕ) (book was marks : List ℕ) → length book ≤ max_book → 5957 ≤ length was → first_bad 1 (lines_in bound book) ≡ None
    → marks ≡ sets was 0 (marks_of bound None (ended_lines book)) → (left book ≡ []) × (joined (picked marks (ended_lines book)) ≡ listing bound book)
unfolding lines_in listing
marked_book bound book was marks within places good is =
    let ls = ended_lines book in
    let p = good_book bound book good in
    let h : length ls ≤ length was = omega (arith, lines_fit bound ls p.0, taken_by-le book) in
    (p.1, ap (λ (ms : List ℕ). joined (picked ms ls)) is ∙ ap joined (picked_sets bound ls was h))

-- ---- the next line of a book in which every line has its end
has_newline_of_left : (s : List ℕ) → 0 < length s → left s ≡ [] → has newline s ≡ true
has_newline_of_left s h e =
    by_test (has newline s) (λ y. y)
    (λ n. absurd (omega (arith, ap length (sym (left_open s (ended_lines-open s n)) ∙ e))))

take-newline : (s : List ℕ) → has newline s ≡ true → take (first_place newline s + 1) s ≡ before newline s ++ (newline ∷ [])
take-newline s h =
    let l = first_place-lt s h in
    rw add-one (take-suc s (first_place newline s) 0 l ∙ ap (λ (b : ℕ). before newline s ++ (b ∷ [])) (get_or-first_place newline s l))

-- the mark at n decides about the next line
picked-drop : (ms : List ℕ) (n : ℕ) (l : List ℕ) (ls : List (List ℕ))
    → picked (drop n ms) (l ∷ ls) ≡ cond (eqb (get_or ms n 0) 1) (l ∷ picked (drop (n + 1) ms) ls) (picked (drop (n + 1) ms) ls)
unfolding picked
picked-drop ms n l ls =
    by_test (ltb n (length ms)) (λ e. ap (λ (v : List ℕ). picked v (l ∷ ls)) (drop-cons-add-one ms n (ltb-true _ _ e)))
    (λ e.
    let h : length ms ≤ n = ltb-false _ _ e in
    let k : length ms ≤ n + 1 = omega arith in
    rw (drop_of_length-le ms {i = n} h, drop_of_length-le ms {i = n + 1} k, get_or_of_length-le ms n h))

picked-nil : (ms : List ℕ) → picked ms [] ≡ []
unfolding picked
picked-nil [] = refl
picked-nil (m ∷ ms) = refl

-- its bytes, if it is marked, and then those of the marked lines below it
joined_picked : (ms : List ℕ) (n : ℕ) (s part : List ℕ) → has newline s ≡ true → part ≡ take (cond (eqb (get_or ms n 0) 1) (first_place newline s + 1) 0) s
    → joined (picked (drop n ms) (ended_lines s)) ≡ part ++ joined (picked (drop (n + 1) ms) (ended_lines (behind s)))
unfolding joined
joined_picked ms n s part h p =
    let below = picked (drop (n + 1) ms) (ended_lines (behind s)) in
    ap (λ (ls : List (List ℕ)). joined (picked (drop n ms) ls)) (ended_lines-first s h) ∙ ap joined (picked-drop ms n (before newline s) (ended_lines (behind s)))
    ∙ by_test (eqb (get_or ms n 0) 1)
    (λ e. rw (e, p, e, take-newline s h) (sym (append_assoc (before newline s) (newline ∷ []) (joined below))))
    (λ e. rw (e, p, e))

-- ---- bytes put one part behind the other
pub sets-append : (room : List ℕ) (i : ℕ) (a b : List ℕ) → sets room i (a ++ b) ≡ sets (sets room i a) (i + length a) b
sets-append room i [] b = let e : i ≡ i + 0 = omega arith in ap (λ (k : ℕ). sets room k b) e
sets-append room i (x ∷ a) b =
    let e : suc i + length a ≡ i + suc (length a) = omega arith in
    sets-append (set room i x) (suc i) a b ∙ ap (λ (k : ℕ). sets (sets (set room i x) (suc i) a) k b) e

-- n lines, which end at the place `at`, are passed, and the marked ones among them are the first w bytes of the room
pub record Copying (book marks was room : List ℕ) (at n w : ℕ) : Type 0 where
  pub within : at ≤ length book
  pub fewer : n ≤ at
  pub ended : left (drop at book) ≡ []
  pub fits : w + length (joined (picked (drop n marks) (ended_lines (drop at book)))) ≤ length room
  pub result : sets was 0 (joined (picked marks (ended_lines book))) ≡ sets room w (joined (picked (drop n marks) (ended_lines (drop at book))))
  pub size : length room ≡ length was

pub copying_start : (book marks room : List ℕ) → left book ≡ [] → length (joined (picked marks (ended_lines book))) ≤ length room → Copying book marks room room 0 0 0
copying_start book marks room e h = record { within = omega arith; fewer = omega arith; ended = e; fits = omega arith; result = refl; size = refl }

module _ {book marks was room : List ℕ} {at n w : ℕ} (k : Copying book marks was room at n w) where
  module _ (s part : List ℕ) (e size : ℕ) (marked : Bool) (is : s ≡ drop at book) (some : at < length book) (place : e ≡ first_place newline s)
      (mark : marked ≡ eqb (get_or marks n 0) 1) (size_is : size ≡ cond marked (e + 1) 0) (part-is : part ≡ take size s) where
    holds : has newline s ≡ true
    holds = has_newline_of_left s (omega (arith, ap length is, length-drop at book)) (ap left is ∙ k.ended)

    next : behind s ≡ drop (at + (e + 1)) book
    next = (λ i. drop (sym place i + 1) (is i)) ∙ drop-drop (e + 1) at book

    bytes_left : joined (picked (drop n marks) (ended_lines (drop at book))) ≡ part ++ joined (picked (drop (n + 1) marks) (ended_lines (drop (at + (e + 1)) book)))
    bytes_left =
        ap (λ (t : List ℕ). joined (picked (drop n marks) (ended_lines t))) (sym is)
        ∙ joined_picked marks n s part holds (part-is ∙ ap (λ (m : ℕ). take m s) (size_is ∙ (λ i. cond (mark i) (place i + 1) 0)))
        ∙ ap (λ (t : List ℕ). part ++ joined (picked (drop (n + 1) marks) (ended_lines t))) next

    pub copying_fits : w + length part ≤ length room
    copying_fits = omega (arith, k.fits, ap length bytes_left, length-append part (joined (picked (drop (n + 1) marks) (ended_lines (drop (at + (e + 1)) book)))))

    pub copying_again : (room' : List ℕ) (w' : ℕ) → w' ≡ w + length part → room' ≡ take w room ++ part ++ drop (w + length part) room → Copying book marks was room' (at + (e + 1)) (n + 1) w'
    copying_again room' w' w-is room-is =
        let below = joined (picked (drop (n + 1) marks) (ended_lines (drop (at + (e + 1)) book))) in
        let put : room' ≡ sets room w part = room-is ∙ sym (sets-eq part room w copying_fits) in
        let same_size : length room' ≡ length room = ap length put ∙ length-sets room w part in
        record {
          within = omega (arith, first_place-lt s holds, ap length is, length-drop at book);
          fewer = omega (arith, k.fewer);
          ended = ap left (sym next) ∙ sym (left_first s holds) ∙ ap left is ∙ k.ended;
          fits = omega (arith, k.fits, ap length bytes_left, length-append part below);
          result = k.result ∙ ap (sets room w) bytes_left ∙ sets-append room w part below ∙ (λ i. sets (sym put i) (sym w-is i) below);
          size = same_size ∙ k.size;
        }

  pub copying_end : length book ≤ at → length (joined (picked marks (ended_lines book))) ≤ length was
      → room ≡ joined (picked marks (ended_lines book)) ++ drop (length (joined (picked marks (ended_lines book)))) was
  unfolding joined
  copying_end h f =
      let all = joined (picked marks (ended_lines book)) in
      let none : ended_lines (drop at book) ≡ [] = ap ended_lines (drop_of_length-le book h) ∙ ended_lines-nil in
      sym (k.result ∙ ap (λ (ls : List (List ℕ)). sets room w (joined (picked (drop n marks) ls))) none ∙ ap (λ (ls : List (List ℕ)). sets room w (joined ls)) (picked-nil (drop n marks)))
      ∙ sets-eq all was 0 (omega arith) ∙ ap (λ (m : ℕ). all ++ drop m was) (zero-add (length all))
