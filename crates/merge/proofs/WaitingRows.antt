-- The rows that wait to be put into the report. In order: the line of the second list that is reported with a line of the first; all rows wait at the
-- start; the search for them, from the start, by one line more, and at its end; what waits for a path below some lines, at the start, and after the
-- row of one more line is put.
-- Assumes nothing.
use Rattle.std.specs.Prelude.{Option, Some}
use mathlib.Core.Path.{◌≡◌, refl, sym, ap, ◌∙◌}
use mathlib.Core.Bool.{Bool, true, false, cond, not, ◌&&◌, ◌||◌, false≢true, and-true}
use mathlib.Core.List.{List, [], ◌∷◌, ◌++◌, append-nil}
use Prim.Native.Nat.{ℕ, zero, suc, ◌+◌, ◌*◌, ◌-◌, ◌≤◌, ◌<◌}
use native.Mathlib.Omega.{arith}
use native.Mathlib.Numerals.{add-one}
use borrow.Author.Tests.{ltb-true, ltb-false, eqb-true, eqb-false, eq-eqb, ne_eqb}
use lib.Dec.{ltb, eqb}
use lib.ListN.{length, take, drop, get_or, set, length-set, length-take, length-drop, take-append-drop}
use lib.Seq.{get_or-set_same, get_or-set_other}
use Rattle.text.specs.Bytes.{same}
use Rattle.text.specs.Lines.{tab, newline, ended_lines}
use Rattle.text.specs.Places.{first_place, part}
use Rattle.text.specs.Room.{put_at}
use Rattle.text.proofs.Lists.{by_test}
use Rattle.stamps.specs.Lines.{line_of}
use Rattle.stamps.specs.declared.line.Line.{Line}
use Rattle.stamps.specs.declared.line.Line.TheVariants.{Hull}
use Rattle.stamps.specs.declared.line.Hull.{Hull as HullValue}
use Rattle.stamps.proofs.Printed.{same_self, eq_of_same}
use Rattle.compact.specs.Compact.{holds_path, kept}
use Rattle.compact.specs.Theorems.{with_path, paths_in}
use Rattle.compact.specs.Held.{opens_hull, path_at, line_at, lines_down, found_number, IsTable}
use Rattle.merge.specs.Merge.{last_key, is_differing, row_of, report}
use Rattle.merge.specs.Held.{key_at, row_with, other_of, Stored, AllWait, row_for, stored_for, without}
use Rattle.merge.specs.Theorems.{IsList}
use Rattle.merge.proofs.Totals.{total, weight, length-rows}
use Rattle.merge.proofs.LastKeys.{KeptLine, kept_line, number-le, not-held, found_path, found_held, found_key}

-- ---- the line of the second list that is reported with the line at the front of s
module _ (s second heads links others : List ℕ) (n : ℕ) (found : n ≡ found_number second heads links others (path_at s)) where
  pub other_none : n ≡ 0 → 0 ≡ other_of s second heads links others
  unfolding other_of
  other_none z = rw (← found, eq-eqb n 0 z)

  module _ (some : n ≡ 0 → ⊥) where
    pub other_same : same (key_at s) (key_at (drop (get_or others (n - 1) 0) second)) ≡ true → 0 ≡ other_of s second heads links others
    unfolding other_of
    other_same y = rw (← found, ne_eqb n 0 some, y)

    pub other_differs : same (key_at s) (key_at (drop (get_or others (n - 1) 0) second)) ≡ false → n ≡ other_of s second heads links others
    unfolding other_of
    other_differs f = rw (← found, ne_eqb n 0 some, f)

-- ---- what is stored
module _ (bound : ℕ) (second others p : List ℕ) where
  stored_as : (b c : Bool) (n k : ℕ) → b ≡ c → n ≡ k → Stored bound second others p c k → Stored bound second others p b n
  stored_as b c n k e f h = rw (e, f) h

  -- 0 is stored exactly where no row waits
  stored_size : (b : Bool) (n k : ℕ) → Stored bound second others p b n → cond b k 0 ≡ cond (eqb n 0) 0 k
  stored_size true n k h = rw (ne_eqb n 0 (λ z. omega (arith, h.0)))
  stored_size false n k h = rw (eq-eqb n 0 h)

-- ---- the row for a number of the first list, as it is put
module _ (line first places second others waiting : List ℕ) (number : ℕ) where
  abbrev row_here : List ℕ
  row_here = row_for line first places second others number (stored_for waiting number)

  pub no_number : number ≡ 0 → (row_here ≡ []) × (waiting ≡ without waiting number)
  no_number z = (rw z, rw z)

  pub length_without : length (without waiting number) ≡ length waiting
  length_without = by_test (eqb number 0) (λ y. rw y) (λ n. rw n (length-set waiting (number - 1) 0))

  module _ (some : number ≡ 0 → ⊥) where
    pub value_is : stored_for waiting number ≡ get_or waiting (number - 1) 0
    value_is = rw (ne_eqb number 0 some)

    pub without_is : set waiting (number - 1) 0 ≡ without waiting number
    without_is = rw (ne_eqb number 0 some)

    pub row_none : get_or waiting (number - 1) 0 ≡ 0 → row_here ≡ []
    row_none z = rw (ne_eqb number 0 some, eq-eqb (get_or waiting (number - 1) 0) 0 z)

    pub row_some : (get_or waiting (number - 1) 0 ≡ 0 → ⊥)
        → row_with (path_at line) (key_at (drop (get_or places (number - 1) 0) first)) (key_at (drop (get_or others (get_or waiting (number - 1) 0 - 1) 0) second)) ≡ row_here
    row_some n = rw (ne_eqb number 0 some, ne_eqb (get_or waiting (number - 1) 0) 0 n)

-- nothing is put
pub nothing_put : (row room : List ℕ) (at : ℕ) → row ≡ [] → (at ≡ at + length row) × (room ≡ put_at row at room)
nothing_put row room at e =
    let z : at + 0 ≡ at = omega arith in (
      omega (arith, ap length e),
      sym (ap (λ (r : List ℕ). put_at r at room) e ∙ ap (λ (n : ℕ). (take at room ++ []) ++ drop n room) z ∙ ap (λ (l : List ℕ). l ++ drop at room) (append-nil (take at room)) ∙ take-append-drop at room),
    )

-- a path is not longer than the text at whose front it is
length-path_at-le : (s : List ℕ) → length (path_at s) ≤ length s
unfolding path_at
length-path_at-le s =
    by_test (opens_hull s) (λ y. rw y (omega (arith, length-take (first_place tab (drop 5 s)) (drop 5 s), length-drop 5 s))) (λ n. rw n (omega arith))

module _ (bound : ℕ) (first second : List ℕ) (is_first : IsList bound first) (is_second : IsList bound second) where
  abbrev ls : List (List ℕ)
  ls = ended_lines first

  abbrev ms : List (List ℕ)
  ms = ended_lines second

  -- what is found for a kept line of the first list is what is to be stored for its path
  module _ (heads links others : List ℕ) (n : ℕ) (table : IsTable bound second heads links others n) (l s : List ℕ) (line : KeptLine bound ls l s) where
    abbrev p : List ℕ
    p = path_at s

    abbrev found : ℕ
    found = found_number second heads links others p

    pub stored_other : Stored bound second others p (is_differing bound ls ms p) (other_of s second heads links others)
    unfolding is_differing
    stored_other = by_number found refl
      where
        by_number : (k : ℕ) → found ≡ k → Stored bound second others p (is_differing bound ls ms p) (other_of s second heads links others)
        by_number zero e =
            let none : is_differing bound ls ms p ≡ false = rw (line.held, not-held bound second heads links others n is_second.hulls table p line.some e) in
            stored_as bound second others p _ false _ 0 none (sym (other_none s second heads links others 0 (sym e) refl)) refl
        by_number (suc k) e =
            let back : suc k - 1 ≡ k = omega arith in
            let other_key : last_key bound p ms ≡ key_at (drop (get_or others (suc k - 1) 0) second) =
            found_key bound second heads links others n is_second.hulls table p line.some k e ∙ ap (λ (j : ℕ). key_at (drop (get_or others j 0) second)) (sym back) in
            let test = same (key_at s) (key_at (drop (get_or others (suc k - 1) 0) second)) in
            let differs : is_differing bound ls ms p ≡ not test =
            rw (line.held, found_held bound second heads links others n is_second.hulls table p line.some k e, line.last, other_key) in
            let no : suc k ≡ 0 → ⊥ = λ z. omega arith in
            by_test test
            (λ y. stored_as bound second others p _ false _ 0 (differs ∙ ap not y) (sym (other_same s second heads links others (suc k) (sym e) no y)) refl)
            (λ f.
            stored_as bound second others p _ true _ (suc k) (differs ∙ ap not f) (sym (other_differs s second heads links others (suc k) (sym e) no f))
            (omega arith, omega (arith, e, number-le bound second heads links others n table p, table.few), sym other_key))

  -- ---- the search for rows: the first k kept lines of the first list are done, and their rows have `size` bytes
  pub record Finding (places others : List ℕ) (count : ℕ) (waiting : List ℕ) (k size : ℕ) : Type 0 where
    pub few : k ≤ count
    pub room : count ≤ length waiting
    pub stored : (j : ℕ) → j < k → let q = path_at (drop (get_or places j 0) first) in Stored bound second others q (is_differing bound ls ms q) (get_or waiting j 0)
    pub size_is : size ≡ total (weight bound ls ms) (paths_in bound (lines_down first places k))
    pub small : size ≤ k * 32803

  pub finding_start : (places others : List ℕ) (count : ℕ) (waiting : List ℕ) → count ≤ length waiting → Finding places others count waiting 0 0
  unfolding lines_down paths_in total
  finding_start places others count waiting h = record { few = omega arith; room = h; stored = λ j lt. absurd (omega arith); size_is = refl; small = omega arith }

  module _ {places others : List ℕ} {count : ℕ} {waiting : List ℕ} {k size : ℕ} (lines : lines_down first places count ≡ kept bound ls) (j : Finding places others count waiting k size) where
    pub finding_end : count ≤ k → (size ≡ length (report bound first second)) × AllWait bound first places second others count waiting
    unfolding report
    finding_end h =
        let e : k ≡ count = omega (arith, j.few) in (
          j.size_is ∙ ap (λ (m : ℕ). total (weight bound ls ms) (paths_in bound (lines_down first places m))) e ∙ ap (λ (ks : List (List ℕ)). total (weight bound ls ms) (paths_in bound ks)) lines
              ∙ sym (length-rows bound ls ms is_first.hulls is_second.hulls),
          record { few = j.room; stored = λ i lt. j.stored i (omega (arith, e)) },
        )

    module _ (heads links : List ℕ) (n : ℕ) (table : IsTable bound second heads links others n) (lt : k < count) (s : List ℕ) (is : s ≡ drop (get_or places k 0) first)
        (other : ℕ) (other-is : other ≡ other_of s second heads links others) (r : ℕ) (r-is : r ≡ cond (eqb other 0) 0 (length (path_at s) + 35)) where
      line : KeptLine bound ls (line_at first (get_or places k 0)) s
      line = rw is (kept_line bound first places count is_first.hulls lines k lt)

      stored_here : Stored bound second others (path_at s) (is_differing bound ls ms (path_at s)) other
      stored_here = rw other-is (stored_other heads links others n table (line_at first (get_or places k 0)) s line)

      row_is : weight bound ls ms (path_at s) ≡ r
      unfolding weight
      row_is = stored_size bound second others (path_at s) (is_differing bound ls ms (path_at s)) other (length (path_at s) + 35) stored_here ∙ sym r-is

      size_next : total (weight bound ls ms) (paths_in bound (lines_down first places (suc k))) ≡ r + size
      unfolding lines_down paths_in total
      size_next =
          let l = line_at first (get_or places k 0) in
          let below = paths_in bound (lines_down first places k) in
          ap (λ (x : Option Line). total (weight bound ls ms) (with_path l x below)) line.line_is
          ∙ (λ i. weight bound ls ms (sym line.path_is i) + sym j.size_is i) ∙ ap (λ (m : ℕ). m + size) row_is

      pub row_small : r ≤ 32803
      row_small =
          let path-small : length (path_at s) ≤ 32768 = omega (arith, length-path_at-le s, ap length is, length-drop (get_or places k 0) first, is_first.short) in
          by_test (eqb other 0) (λ y. let e : r ≡ 0 = rw y at r-is in omega arith) (λ f. let e : r ≡ length (path_at s) + 35 = rw f at r-is in omega (arith, path-small))

      pub finding_again : (waiting' : List ℕ) → waiting' ≡ set waiting k other → Finding places others count waiting' (k + 1) (size + r)
      finding_again waiting' set_is =
          let lies : k < length waiting = omega (arith, j.room) in
          let next : k + 1 ≡ suc k = add-one k in
          record {
            few = omega arith;
            room = omega (arith, j.room, ap length set_is, length-set waiting k other);
            stored = λ i h. by_place waiting' set_is lies i h;
            size_is = omega (arith, size_next, ap (λ (m : ℕ). total (weight bound ls ms) (paths_in bound (lines_down first places m))) next);
            small = omega (arith, j.small, row_small);
          }
        where
          by_place : (waiting' : List ℕ) → waiting' ≡ set waiting k other → k < length waiting → (i : ℕ) → i < k + 1
              → let q = path_at (drop (get_or places i 0) first) in Stored bound second others q (is_differing bound ls ms q) (get_or waiting' i 0)
          by_place waiting' set_is lies i h =
              by_test (eqb i k)
              (λ y.
              let e = eqb-true i k y in
              let path_is : path_at (drop (get_or places i 0) first) ≡ path_at s = ap (λ (m : ℕ). path_at (drop (get_or places m 0) first)) e ∙ ap path_at (sym is) in
              let value_is : get_or waiting' i 0 ≡ other = (λ t. get_or (set_is t) (e t) 0) ∙ get_or-set_same waiting k other 0 lies in
              rw (path_is, value_is) stored_here)
              (λ f.
              let ne = eqb-false i k f in
              let less : i < k = by_test (ltb i k) (λ y. ltb-true i k y) (λ y. absurd (ne (omega (arith, ltb-false i k y)))) in
              rw (ap (λ (w : List ℕ). get_or w i 0) set_is ∙ get_or-set_other waiting k i other 0 ne) (j.stored i less))

  -- ---- what waits for a path, below these lines
  module _ (heads links places others : List ℕ) (count : ℕ) (table : IsTable bound first heads links places count) where
    abbrev is_waiting : List (List ℕ) → List ℕ → Bool
    is_waiting above q = is_differing bound ls ms q && not (holds_path bound q above)

    pub record Waits (above : List (List ℕ)) (waiting : List ℕ) : Type 0 where
      pub few : count ≤ length waiting
      pub stored : (q : List ℕ) → 0 < length q → (n : ℕ) → found_number first heads links places q ≡ suc n → Stored bound second others q (is_waiting above q) (get_or waiting n 0)

    pub waits_start : (waiting : List ℕ) → AllWait bound first places second others count waiting → Waits [] waiting
    unfolding holds_path
    waits_start waiting all = record { few = all.few; stored = start }
      where
        start : (q : List ℕ) → 0 < length q → (n : ℕ) → found_number first heads links places q ≡ suc n → Stored bound second others q (is_differing bound ls ms q && true) (get_or waiting n 0)
        start q some n e =
            let path_is = found_path bound first heads links places count is_first.hulls table q some n e in
            let here = all.stored n (omega (arith, e, number-le bound first heads links places count table q)) in
            rw and-true (rw path_is at here)

    -- ---- the line k is taken, which has the path q: its row is put if it waits
    module _ {above : List (List ℕ)} {waiting : List ℕ} (w : Waits above waiting) (q : List ℕ) (some : 0 < length q) (number : ℕ) (number_is : number ≡ found_number first heads links places q) where
      abbrev value : ℕ
      value = stored_for waiting number

      pub number_small : number ≤ count
      number_small = omega (arith, number_is, number-le bound first heads links places count table q)

      stored_value : Stored bound second others q (is_waiting above q) value
      unfolding is_differing
      stored_value = by_number number refl
        where
          by_number : (m : ℕ) → number ≡ m → Stored bound second others q (is_waiting above q) (stored_for waiting m)
          by_number zero z = rw (not-held bound first heads links places count is_first.hulls table q some (sym number_is ∙ z)) refl
          by_number (suc m) z =
              let back : suc m - 1 ≡ m = omega arith in
              let value_is : stored_for waiting (suc m) ≡ get_or waiting m 0 = rw (ne_eqb (suc m) 0 (λ y. omega arith), back) in
              rw value_is (w.stored q some m (sym number_is ∙ z))

      pub value_small : value ≤ length others
      value_small = by_waiting (is_waiting above q) stored_value
        where
          by_waiting : (b : Bool) → Stored bound second others q b value → value ≤ length others
          by_waiting true h = h.1
          by_waiting false h = omega (arith, h)

      -- the row is that of the path
      pub row_put : (line : List ℕ) → q ≡ path_at line → row_for line first places second others number value ≡ cond (is_waiting above q) (row_of bound ls ms q ++ newline ∷ []) []
      unfolding row_of
      row_put line path_is = by_waiting (is_waiting above q) stored_value
        where
          by_number : (m : ℕ) → number ≡ m → Stored bound second others q true value
              → row_with (path_at line) (key_at (drop (get_or places (number - 1) 0) first)) (key_at (drop (get_or others (value - 1) 0) second)) ≡ row_of bound ls ms q ++ newline ∷ []
          by_number zero z h = absurd (omega (arith, h.0, ap (stored_for waiting) z))
          by_number (suc m) z h =
              let back : number - 1 ≡ m = omega (arith, z) in
              let key_is : key_at (drop (get_or places (number - 1) 0) first) ≡ last_key bound q ls =
              ap (λ (k : ℕ). key_at (drop (get_or places k 0) first)) back ∙ sym (found_key bound first heads links places count is_first.hulls table q some m (sym number_is ∙ z)) in
              λ i. row_with (sym path_is i) (key_is i) (h.2 i)

          by_waiting : (b : Bool) → Stored bound second others q b value → row_for line first places second others number value ≡ cond b (row_of bound ls ms q ++ newline ∷ []) []
          by_waiting true h = rw (ne_eqb value 0 (λ z. omega (arith, h.0))) (by_number number refl h)
          by_waiting false h = rw (eq-eqb value 0 h)

      -- it waits no more, and the others wait as before
      module _ (k : List ℕ) (h : HullValue) (line_is : line_of bound k ≡ Some (Hull h)) (path_is : q ≡ part k h.path) (waiting' : List ℕ) (set_is : waiting' ≡ without waiting number) where
        holds_cons : (r : List ℕ) → holds_path bound r (k ∷ above) ≡ (same q r || holds_path bound r above)
        unfolding holds_path
        holds_cons r = rw (line_is, ← path_is)

        -- the path itself
        none_left : (n : ℕ) → found_number first heads links places q ≡ suc n → get_or waiting' n 0 ≡ 0
        none_left n e =
            let back : number - 1 ≡ n = omega (arith, number_is, e) in
            let is : waiting' ≡ set waiting n 0 = set_is ∙ rw (ne_eqb number 0 (λ z. omega (arith, number_is, e)), back) in
            ap (λ (v : List ℕ). get_or v n 0) is ∙ get_or-set_same waiting n 0 0 (omega (arith, w.few, e, number-le bound first heads links places count table q))

        -- any other path
        others_stay : (r : List ℕ) → same q r ≡ false → 0 < length r → (n : ℕ) → found_number first heads links places r ≡ suc n → get_or waiting' n 0 ≡ get_or waiting n 0
        others_stay r differs r_some n e = by_number number refl
          where
            by_number : (m : ℕ) → number ≡ m → get_or waiting' n 0 ≡ get_or waiting n 0
            by_number zero z = ap (λ (v : List ℕ). get_or v n 0) (set_is ∙ ap (without waiting) z)
            by_number (suc m) z =
                let back : number - 1 ≡ m = omega (arith, z) in
                let is : waiting' ≡ set waiting m 0 = set_is ∙ rw (ne_eqb number 0 (λ y. omega (arith, z)), back) in
                let ne : n ≡ m → ⊥ = λ y.
                let r-is : path_at (drop (get_or places n 0) first) ≡ r = found_path bound first heads links places count is_first.hulls table r r_some n e in
                let q-is : path_at (drop (get_or places m 0) first) ≡ q = found_path bound first heads links places count is_first.hulls table q some m (sym number_is ∙ z) in
                let alike : q ≡ r = sym q-is ∙ ap (λ (i : ℕ). path_at (drop (get_or places i 0) first)) (sym y) ∙ r-is in
                false≢true (sym differs ∙ ap (same q) (sym alike) ∙ same_self q) in
                ap (λ (v : List ℕ). get_or v n 0) is ∙ get_or-set_other waiting m n 0 0 ne

        pub waits_again : Waits (k ∷ above) waiting'
        waits_again = record { few = omega (arith, w.few, ap length set_is, length_without q first places second others waiting number); stored = each }
          where
            and_false : (b : Bool) → (b && false) ≡ false
            and_false true = refl
            and_false false = refl

            each : (r : List ℕ) → 0 < length r → (n : ℕ) → found_number first heads links places r ≡ suc n → Stored bound second others r (is_waiting (k ∷ above) r) (get_or waiting' n 0)
            each r r_some n e =
                by_test (same q r)
                (λ y.
                let r-is : r ≡ q = sym (eq_of_same q r y) in
                let done : is_waiting (k ∷ above) r ≡ false = rw (holds_cons r, y, and_false) in
                rw done (none_left n (ap (found_number first heads links places) (sym r-is) ∙ e)))
                (λ f.
                let as_before : is_waiting (k ∷ above) r ≡ is_waiting above r = rw (holds_cons r, f) in
                rw (as_before, others_stay r f r_some n e) (w.stored r r_some n e))
