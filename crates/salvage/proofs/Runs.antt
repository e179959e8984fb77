-- A run of good lines and the line behind it. In order: the lines that are dropped below others; the first line of a text that holds a newline, of
-- one that holds none, and of the empty text; a text by the run of good lines at its front (`run`); the same by what `good_run_with` answers; the first line that is dropped is the one that a check names (`check_names_the_first_row`).
-- Assumes nothing.
use Rattle.std.specs.Prelude.{None, Option, Some}
use mathlib.Core.Path.{◌≡◌, refl, sym, ap, ◌∙◌}
use mathlib.Core.Bool.{true, false, ◌&&◌, and-true}
use mathlib.Core.List.{List, [], ◌∷◌, ◌++◌, append_assoc}
use Prim.Native.Nat.{ℕ, zero, suc, ◌+◌, ◌≤◌, ◌<◌}
use native.Mathlib.Nat.{add-suc}
use native.Mathlib.Numerals.{add-one}
use native.Mathlib.Omega.{arith}
use borrow.Author.Tests.{ltb-true, ltb-false}
use lib.Dec.{ltb}
use lib.ListN.{length, take, drop, length-drop, drop_of_length-le}
use lib.Seq.{take-suc, take-add, drop-drop, drop-nil, take-nil}
use Rattle.text.specs.Lines.{newline, ended_lines, taken_by, left}
use Rattle.text.specs.Places.{first_place, before, has}
use Rattle.text.proofs.FirstPlaces.{get_or-first_place}
use Rattle.text.proofs.Lists.{by_test, both}
use Rattle.text.proofs.Runs.{run-le-length}
use Rattle.time.specs.declared.Refusal.TheVariants.{Book}
use Rattle.stamps.specs.Book.{lines_in, first_bad, bad_number, good_front, check_of, refused_at, checked_line}
use Rattle.stamps.specs.Copies.{joined}
use Rattle.stamps.specs.Lines.{line_of, is_good}
use Rattle.stamps.specs.declared.line.Line.{Line}
use Rattle.stamps.specs.declared.line.Line.TheVariants.{Hull, Since}
use Rattle.stamps.proofs.Books.{behind, first_place-lt, ended_lines-first, left_first, ended_lines-open, left_open, ended_lines-nil, lines_in-open, first_bad-first, first_bad-stop, good_front-first, good_front-stop, first_bad_of_zero, taken_by-le}
use Rattle.stamps.proofs.Fields.{length_before}
use Rattle.stamps.proofs.Listings.{some_of_checked_at, check_of-within, le-max_book_of_check_of}
use Rattle.salvage.specs.Salvage.{Dropped, good_lines, salvaged, bad_lines, bad_piece, dropped}
use Rattle.salvage.proofs.OneLine.{bad_piece-some}

-- the lines of s that are dropped, where m lines stand above it
abbrev pub dropped_below : ℕ → ℕ → List ℕ → List Dropped
dropped_below bound m s = bad_lines bound (suc m) (ended_lines s) ++ bad_piece (suc (m + length (ended_lines s))) (left s)

pub dropped_below_none : (bound : ℕ) (book : List ℕ) → dropped bound book ≡ dropped_below bound 0 book
unfolding dropped
dropped_below_none bound book =
    let e : length (ended_lines book) ≡ 0 + length (ended_lines book) = omega arith in
    ap (λ (n : ℕ). bad_lines bound 1 (ended_lines book) ++ bad_piece (suc n) (left book)) e

-- a line that is dropped
abbrev pub drop_at : ℕ → ℕ → Dropped
drop_at n size = record { number = n; size = size }

-- ---- the empty text
behind-nil : behind [] ≡ []
behind-nil = drop-nil (first_place newline [] + 1)

pub below-nil : (bound m : ℕ) (s : List ℕ) → s ≡ [] → dropped_below bound m s ≡ []
unfolding bad_lines left taken_by
below-nil bound m s e = ap (dropped_below bound m) e ∙ rw ended_lines-nil

pub salvaged-nil : (bound : ℕ) → salvaged bound [] ≡ []
unfolding salvaged good_lines joined
salvaged-nil bound = rw ended_lines-nil

-- ---- the first line
pub first_place-le-length : (s : List ℕ) → first_place newline s ≤ length s
unfolding first_place
first_place-le-length s = run-le-length _ s

module _ (bound : ℕ) (s : List ℕ) where
  unfold_has : has newline s ≡ false → ltb (first_place newline s) (length s) ≡ false
  unfolding has
  unfold_has h = h

  module _ (h : has newline s ≡ true) where
    below_first : (m : ℕ) → dropped_below bound m s
        ≡ bad_lines bound (suc m) (before newline s ∷ ended_lines (behind s)) ++ bad_piece (suc (suc m + length (ended_lines (behind s)))) (left (behind s))
    below_first m =
        let ls = ended_lines (behind s) in
        let e : m + length (before newline s ∷ ls) ≡ suc m + length ls = omega arith in
        (λ i. bad_lines bound (suc m) (ended_lines-first s h i) ++ bad_piece (suc (m + length (ended_lines-first s h i))) (left_first s h i))
        ∙ ap (λ (n : ℕ). bad_lines bound (suc m) (before newline s ∷ ls) ++ bad_piece (suc n) (left (behind s))) e

    first_taken : take (first_place newline s + 1) s ≡ before newline s ++ (newline ∷ [])
    first_taken =
        ap (λ (n : ℕ). take n s) (add-one (first_place newline s)) ∙ take-suc s (first_place newline s) 0 (first_place-lt s h)
        ∙ ap (λ (b : ℕ). before newline s ++ (b ∷ [])) (get_or-first_place newline s (first_place-lt s h))

    -- it is good
    salvaged_good : is_good (line_of bound (before newline s)) ≡ true → salvaged bound s ≡ take (first_place newline s + 1) s ++ salvaged bound (behind s)
    unfolding salvaged good_lines joined
    salvaged_good g =
        ap (λ (ls : List (List ℕ)). joined (good_lines bound ls)) (ended_lines-first s h) ∙ good_first
        ∙ sym (append_assoc (before newline s) (newline ∷ []) (joined (good_lines bound (ended_lines (behind s)))))
        ∙ ap (λ (t : List ℕ). t ++ joined (good_lines bound (ended_lines (behind s)))) (sym first_taken)
      where
        good_first : joined (good_lines bound (before newline s ∷ ended_lines (behind s))) ≡ before newline s ++ newline ∷ joined (good_lines bound (ended_lines (behind s)))
        good_first = rw g

    below_good : (m : ℕ) → is_good (line_of bound (before newline s)) ≡ true → dropped_below bound m s ≡ dropped_below bound (suc m) (behind s)
    unfolding bad_lines
    below_good m g = below_first m ∙ rw g

  -- it is bad, or it has no newline
  module _ (some : 0 < length s) (e : (is_good (line_of bound (before newline s)) && has newline s) ≡ false) where
    behind_open : has newline s ≡ false → behind s ≡ []
    unfolding has
    behind_open h = drop_of_length-le s {i = first_place newline s + 1} (omega (arith, ltb-false (first_place newline s) (length s) h))

    bad_of_ended : has newline s ≡ true → is_good (line_of bound (before newline s)) ≡ false
    bad_of_ended h = rw (h, and-true) at e

    salvaged_bad : salvaged bound s ≡ salvaged bound (behind s)
    unfolding salvaged good_lines
    salvaged_bad =
        by_test (has newline s) (λ h. ap (λ (ls : List (List ℕ)). joined (good_lines bound ls)) (ended_lines-first s h) ∙ rw (bad_of_ended h))
        (λ h. ap (λ (ls : List (List ℕ)). joined (good_lines bound ls)) (ended_lines-open s h ∙ sym (ap ended_lines (behind_open h) ∙ ended_lines-nil)))

    below_bad : (m : ℕ) → dropped_below bound m s ≡ drop_at (suc m) (first_place newline s) ∷ dropped_below bound (suc m) (behind s)
    unfolding bad_lines
    below_bad m =
        by_test (has newline s)
        (λ h. below_first h m ∙ rw (bad_of_ended h, length_before newline s))
        (λ h.
        let none = ended_lines-open s h in
        let z : suc (m + 0) ≡ suc m = omega arith in
        let piece : dropped_below bound m s ≡ bad_piece (suc m) s =
        (λ i. bad_lines bound (suc m) (none i) ++ bad_piece (suc (m + length (none i))) (left_open s none i)) ∙ ap (λ (n : ℕ). bad_piece n s) z in
        let size : length s ≡ first_place newline s = omega (arith, first_place-le-length s, ltb-false (first_place newline s) (length s) (unfold_has h)) in
        piece ∙ bad_piece-some (suc m) s some ∙ (λ i. drop_at (suc m) (size i) ∷ sym (below-nil bound (suc m) (behind s) (behind_open h)) i))

-- ---- a text by the run of good lines at its front
-- how many bytes the run has, and what follows it
abbrev pub front_size : ℕ → List ℕ → ℕ
front_size bound s = taken_by (good_front bound (ended_lines s))

-- the lines that are dropped of t, whose first line is bad and has this number
abbrev rows_at : ℕ → Option ℕ → List ℕ → List Dropped
rows_at bound None t = []
rows_at bound (Some v) t = drop_at v (first_place newline t) ∷ dropped_below bound v (behind t)

record Run (bound m : ℕ) (s : List ℕ) : Type 0 where
  kept : salvaged bound s ≡ take (front_size bound s) s ++ salvaged bound (behind (drop (front_size bound s) s))
  lost : dropped_below bound m s ≡ rows_at bound (first_bad (suc m) (lines_in bound s)) (drop (front_size bound s) s)
  whole : first_bad (suc m) (lines_in bound s) ≡ None → drop (front_size bound s) s ≡ []
  few : bad_number (first_bad (suc m) (lines_in bound s)) ≤ suc (m + front_size bound s)

module _ (bound : ℕ) where
  -- the run of a text that begins with a bad line is empty
  run_stop : (m : ℕ) (s : List ℕ) → 0 < length s → (is_good (line_of bound (before newline s)) && has newline s) ≡ false → Run bound m s
  run_stop m s some e =
      let z = good_front-stop bound s e in
      let v = first_bad-stop bound (suc m) s some e in
      record {
        kept = salvaged_bad bound s some e ∙ ap (λ (n : ℕ). take n s ++ salvaged bound (behind (drop n s))) (sym z);
        lost = below_bad bound s some e m ∙ (λ i. rows_at bound (sym v i) (drop (sym z i) s));
        whole = λ n. let c : Some (suc m) ≡ None = sym v ∙ n in absurd (omega (arith, ap bad_number c));
        few = omega (arith, ap bad_number v);
      }

  run_again : (m : ℕ) (s : List ℕ) → (is_good (line_of bound (before newline s)) && has newline s) ≡ true → Run bound (suc m) (behind s) → Run bound m s
  run_again m s e r =
      let p = both (is_good (line_of bound (before newline s))) (has newline s) e in
      let first = first_place newline s + 1 in
      let z : front_size bound s ≡ first + front_size bound (behind s) = good_front-first bound s e in
      let v = first_bad-first bound (suc m) s e in
      let d : drop (front_size bound (behind s)) (behind s) ≡ drop (front_size bound s) s = drop-drop (front_size bound (behind s)) first s ∙ ap (λ (n : ℕ). drop n s) (sym z) in
      let t : take first s ++ take (front_size bound (behind s)) (behind s) ≡ take (front_size bound s) s = sym (take-add first (front_size bound (behind s)) s) ∙ ap (λ (n : ℕ). take n s) (sym z) in
      record {
        kept = salvaged_good bound s p.1 p.0 ∙ ap (λ (x : List ℕ). take first s ++ x) r.kept
            ∙ sym (append_assoc (take first s) (take (front_size bound (behind s)) (behind s)) (salvaged bound (behind (drop (front_size bound (behind s)) (behind s)))))
            ∙ (λ i. t i ++ salvaged bound (behind (d i)));
        lost = below_good bound s p.1 m p.0 ∙ r.lost ∙ (λ i. rows_at bound (sym v i) (d i));
        whole = λ n. sym d ∙ r.whole (sym v ∙ n);
        few = omega (arith, ap bad_number v, r.few, z);
      }

  run-nil : (m : ℕ) (s : List ℕ) → length s ≤ 0 → Run bound m s
  unfolding good_front taken_by first_bad
  run-nil m [] h =
      let v : first_bad (suc m) (lines_in bound []) ≡ None = ap (first_bad (suc m)) (lines_in-open bound [] ended_lines-nil) in
      let n = front_size bound [] in
      let d : behind (drop n []) ≡ [] = ap behind (drop-nil {A = ℕ} n) ∙ behind-nil in
      record {
        kept = (λ i. sym (take-nil {A = ℕ} n) i ++ salvaged bound (sym d i));
        lost = below-nil bound m [] refl ∙ ap (λ (x : Option ℕ). rows_at bound x (drop n [])) (sym v);
        whole = λ e. drop-nil n;
        few = omega (arith, ap bad_number v);
      }
  run-nil m (b ∷ s) h = absurd (omega arith)

  run : (k m : ℕ) (s : List ℕ) → length s ≤ k → Run bound m s
  run zero m s h = run-nil m s h
  run (suc k) m s h =
      by_test (ltb 0 (length s))
      (λ y.
      let some = ltb-true 0 (length s) y in
      by_test (is_good (line_of bound (before newline s)) && has newline s)
      (λ e. run_again m s e (run k (suc m) (behind s) (omega (arith, length-drop (first_place newline s + 1) s)))) (λ e. run_stop m s some e))
      (λ n. run-nil m s (ltb-false 0 (length s) n))

-- ---- the same by what `good_run_with` answers
-- a number of a line, where m lines more stand above
abbrev shifted : ℕ → Option ℕ → Option ℕ
shifted m (Some v) = Some (m + v)
shifted m None = None

first_bad-below : (m n : ℕ) (ls : List (Option Line)) → first_bad (m + n) ls ≡ shifted m (first_bad n ls)
unfolding first_bad
first_bad-below m n [] = refl
first_bad-below m n (Some (Hull h) ∷ ls) = ap (λ (k : ℕ). first_bad k ls) (sym (add-suc m n)) ∙ first_bad-below m (suc n) ls
first_bad-below m n (Some (Since x) ∷ ls) = ap (λ (k : ℕ). first_bad k ls) (sym (add-suc m n)) ∙ first_bad-below m (suc n) ls
first_bad-below m n (None ∷ ls) = refl

taken_by-good_front : (bound : ℕ) (ls : List (List ℕ)) → taken_by (good_front bound ls) ≤ taken_by ls
unfolding good_front taken_by
taken_by-good_front bound [] = omega arith
taken_by-good_front bound (l ∷ ls) = by_test (is_good (line_of bound l)) (λ y. rw y (omega (arith, taken_by-good_front bound ls))) (λ n. rw n (omega arith))

module _ (bound bad end : ℕ) (s : List ℕ) (bad-is : bad ≡ bad_number (first_bad 1 (lines_in bound s))) (end_is : end ≡ front_size bound s) where
  pub run_within : (end ≤ length s) × (bad ≤ suc end)
  run_within = (omega (arith, taken_by-good_front bound (ended_lines s), taken_by-le s), omega (arith, (run bound (length s) 0 s (omega arith)).few))

  pub run_kept : salvaged bound s ≡ take end s ++ salvaged bound (behind (drop end s))
  run_kept = (run bound (length s) 0 s (omega arith)).kept ∙ (λ i. take (sym end_is i) s ++ salvaged bound (behind (drop (sym end_is i) s)))

  module _ (m : ℕ) where
    first_bad_shifted : first_bad (suc m) (lines_in bound s) ≡ shifted m (first_bad 1 (lines_in bound s))
    first_bad_shifted = ap (λ (k : ℕ). first_bad k (lines_in bound s)) (sym (add-one m)) ∙ first_bad-below m 1 (lines_in bound s)

    -- no line is bad, so nothing follows the run
    pub run_whole : bad ≡ 0 → (behind (drop end s) ≡ []) × (dropped_below bound m s ≡ [])
    run_whole z =
        let r = run bound (length s) m s (omega arith) in
        let v : first_bad (suc m) (lines_in bound s) ≡ None = first_bad_shifted ∙ ap (shifted m) (first_bad_of_zero (lines_in bound s) (sym bad-is ∙ z)) in
        (ap (λ (k : ℕ). behind (drop k s)) end_is ∙ ap behind (r.whole v) ∙ behind-nil, r.lost ∙ ap (λ (x : Option ℕ). rows_at bound x (drop (front_size bound s) s)) v)

    -- the line behind the run is bad
    pub run_then_bad : (bad ≡ 0 → ⊥) → dropped_below bound m s ≡ drop_at (m + bad) (first_place newline (drop end s)) ∷ dropped_below bound (m + bad) (behind (drop end s))
    run_then_bad n =
        let v : first_bad (suc m) (lines_in bound s) ≡ Some (m + bad) = first_bad_shifted ∙ told (first_bad 1 (lines_in bound s)) bad-is in
        (run bound (length s) m s (omega arith)).lost ∙ (λ i. rows_at bound (v i) (drop (sym end_is i) s))
      where
        told : (x : Option ℕ) → bad ≡ bad_number x → shifted m x ≡ Some (m + bad)
        told (Some w) e = ap (λ (k : ℕ). Some (m + k)) (sym e)
        told None e = absurd (n e)

-- ---- a check that refuses a book names the line of the first row
pub check_names_the_first_row : (bound n : ℕ) (book : List ℕ) → check_of bound book ≡ refused_at Book (suc n)
    → (size : ℕ) × (below : List Dropped) × (dropped bound book ≡ drop_at (suc n) size ∷ below)
check_names_the_first_row bound n book e =
    let h = le-max_book_of_check_of bound book (refused_at Book (suc n)) e (λ q. let z : 0 ≡ suc n = ap checked_line q in omega arith) in
    let v : first_bad 1 (lines_in bound book) ≡ Some (suc n) = some_of_checked_at (first_bad 1 (lines_in bound book)) (suc n) (sym (check_of-within bound book h) ∙ e) in
    let tail = drop (front_size bound book) book in (
      first_place newline tail,
      dropped_below bound (suc n) (behind tail),
      dropped_below_none bound book ∙ (run bound (length book) 0 book (omega arith)).lost ∙ ap (λ (x : Option ℕ). rows_at bound x tail) v,
    )
