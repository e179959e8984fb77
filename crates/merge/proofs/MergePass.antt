-- The pass that merges two lists. In order: the state of the pass, from the start; the rooms that the next line and its row need; the state by one line
-- more, and at its end.
-- Assumes nothing.
use mathlib.Core.Path.{◌≡◌, refl, sym, ap, ◌∙◌}
use mathlib.Core.Bool.{Bool, cond, not, ◌&&◌}
use mathlib.Core.List.{List, [], ◌∷◌, ◌++◌, append_assoc, append-nil}
use Prim.Native.Nat.{ℕ, ◌+◌, ◌≤◌, ◌<◌}
use native.Mathlib.Omega.{arith}
use lib.ListN.{length, drop, length-append, drop_of_length-le}
use Rattle.text.specs.Places.{part}
use Rattle.text.specs.Lines.{newline, ended_lines}
use Rattle.text.specs.Room.{put_at}
use Rattle.text.proofs.Lists.{by_test}
use Rattle.text.proofs.Behind.{length-put_at, Front, front-append, front_room, front_whole}
use Rattle.stamps.specs.Lines.{line_of}
use Rattle.stamps.specs.Copies.{joined}
use Rattle.stamps.proofs.Books.{ended_lines-nil}
use Rattle.compact.specs.Compact.{holds_path}
use Rattle.compact.specs.Held.{path_at, found_number, IsTable}
use Rattle.compact.proofs.Paths.{path_of_hull}
use Rattle.merge.specs.Merge.{merged_lines, merged, path_in, is_differing, reported, row_of, rows_of, report}
use Rattle.merge.specs.Held.{AllWait, row_for, stored_for, without}
use Rattle.merge.specs.Theorems.{IsList}
use Rattle.merge.proofs.WaitingRows.{Waits, waits_start, number_small, value_small, row_put, waits_again}
use Rattle.merge.proofs.TakenLines.{IsRest, Step}

module _ (bound : ℕ) (first second : List ℕ) (is_first : IsList bound first) (is_second : IsList bound second) (heads links places others : List ℕ) (count : ℕ) (table : IsTable bound first heads links places count) where
  abbrev ls : List (List ℕ)
  ls = ended_lines first

  abbrev ms : List (List ℕ)
  ms = ended_lines second

  -- the lines that are not taken yet, as bytes, and the rows of their paths
  abbrev lines_left : ℕ → ℕ → List (List ℕ)
  lines_left i j = merged_lines bound (ended_lines (drop i first)) (ended_lines (drop j second))

  abbrev rows_left : List (List ℕ) → ℕ → ℕ → List ℕ
  rows_left above i j = joined (rows_of bound ls ms (reported bound ls ms above (lines_left i j)))

  -- ---- the state: the lines above are taken, up to the places i and j; they are put into the book, and their rows into the report
  pub record Merging (book₀ report₀ waiting book report' : List ℕ) (i j written told : ℕ) : Type 0 where
    pub first_rest : IsRest bound first i
    pub second_rest : IsRest bound second j
    pub above : List (List ℕ)
    pub waits : Waits bound first second is_first is_second heads links places others count table above waiting
    pub lines_put : List ℕ
    pub book_is : Front lines_put book₀ book written
    pub lines_are : lines_put ++ joined (lines_left i j) ≡ merged bound first second
    pub rows_put : List ℕ
    pub report_is : Front rows_put report₀ report' told
    pub rows_are : rows_put ++ rows_left above i j ≡ report bound first second

  rest_of_list : (list : List ℕ) → IsList bound list → IsRest bound list 0
  rest_of_list list l = record { within = omega arith; whole = l.whole; hulls = l.hulls }

  pub merging_start : (book₀ report₀ waiting : List ℕ) → AllWait bound first places second others count waiting → Merging book₀ report₀ waiting book₀ report₀ 0 0 0 0
  unfolding merged report
  merging_start book₀ report₀ waiting all =
      record {
        first_rest = rest_of_list first is_first;
        second_rest = rest_of_list second is_second;
        above = [];
        waits = waits_start bound first second is_first is_second heads links places others count table waiting all;
        lines_put = [];
        book_is = record { is = refl; place = refl };
        lines_are = refl;
        rows_put = [];
        report_is = record { is = refl; place = refl };
        rows_are = refl;
      }

  module _ {book₀ report₀ waiting book report' : List ℕ} {i j written told : ℕ} (m : Merging book₀ report₀ waiting book report' i j written told)
      (book-fits : length (merged bound first second) ≤ length book₀) (report-fits : length (report bound first second) ≤ length report₀) where
    -- ---- nothing is left
    pub merging_end : length first ≤ i → length second ≤ j
        → (book ≡ merged bound first second ++ drop (length (merged bound first second)) book₀) × (report' ≡ report bound first second ++ drop (length (report bound first second)) report₀)
    unfolding merged_lines joined reported rows_of
    merging_end h k =
        let a : ended_lines (drop i first) ≡ [] = ap ended_lines (drop_of_length-le first h) ∙ ended_lines-nil in
        let b : ended_lines (drop j second) ≡ [] = ap ended_lines (drop_of_length-le second k) ∙ ended_lines-nil in
        let none : lines_left i j ≡ [] = λ t. merged_lines bound (a t) (b t) in
        let book-put : m.lines_put ≡ merged bound first second =
        sym (append-nil m.lines_put) ∙ ap (λ (ks : List (List ℕ)). m.lines_put ++ joined ks) (sym none) ∙ m.lines_are in
        let report-put : m.rows_put ≡ report bound first second =
        sym (append-nil m.rows_put) ∙ ap (λ (ks : List (List ℕ)). m.rows_put ++ joined (rows_of bound ls ms (reported bound ls ms m.above ks))) (sym none) ∙ m.rows_are in (
          front_whole m.book_is ∙ ap (λ (s : List ℕ). s ++ drop (length s) book₀) book-put,
          front_whole m.report_is ∙ ap (λ (s : List ℕ). s ++ drop (length s) report₀) report-put,
        )

    -- both rooms are as long as they were
    pub same_lengths : (length book ≡ length book₀) × (length report' ≡ length report₀)
    same_lengths = (
      ap length m.book_is.is ∙ length-put_at m.lines_put book₀ 0 (omega (arith, book-fits, ap length m.lines_are, length-append m.lines_put (joined (lines_left i j)))),
      ap length m.report_is.is ∙ length-put_at m.rows_put report₀ 0 (omega (arith, report-fits, ap length m.rows_are, length-append m.rows_put (rows_left m.above i j))),
    )

    -- ---- one line more
    module _ (line : List ℕ) (i' j' : ℕ) (st : Step bound first second i j line i' j') where
      abbrev k : List ℕ
      k = st.taken

      abbrev q : List ℕ
      q = path_at line

      abbrev is_put : Bool
      is_put = is_differing bound ls ms q && not (holds_path bound q m.above)

      path_parts : (path_at (k ++ newline ∷ []) ≡ part k st.hull.path) × (0 < length (part k st.hull.path))
      path_parts = path_of_hull bound k st.hull (newline ∷ []) st.taken_is

      path_is : q ≡ part k st.hull.path
      path_is = ap path_at st.line_is ∙ path_parts.0

      some : 0 < length q
      some = omega (arith, ap length path_is, path_parts.1)

      lines_next : (m.lines_put ++ line) ++ joined (lines_left i' j') ≡ merged bound first second
      unfolding joined
      lines_next =
          append_assoc m.lines_put line (joined (lines_left i' j'))
          ∙ ap (λ (l : List ℕ). m.lines_put ++ (l ++ joined (lines_left i' j'))) st.line_is
          ∙ ap (λ (l : List ℕ). m.lines_put ++ l) (append_assoc k (newline ∷ []) (joined (lines_left i' j')))
          ∙ ap (λ (ks : List (List ℕ)). m.lines_put ++ joined ks) (sym st.merged_is) ∙ m.lines_are

      pub book_room : written + length line ≤ length book
      book_room = front_room line m.book_is (omega (arith, book-fits, ap length lines_next, length-append (m.lines_put ++ line) (joined (lines_left i' j'))))

      module _ (number : ℕ) (number_is : number ≡ found_number first heads links places q) where
        abbrev row : List ℕ
        row = row_for line first places second others number (stored_for waiting number)

        row_is : row ≡ cond is_put (row_of bound ls ms q ++ newline ∷ []) []
        row_is = row_put bound first second is_first is_second heads links places others count table m.waits q some number number_is line refl

        -- the rows that are left begin with it
        rows_next : (m.rows_put ++ row) ++ rows_left (k ∷ m.above) i' j' ≡ report bound first second
        unfolding joined reported rows_of
        rows_next =
            let below = reported bound ls ms (k ∷ m.above) (lines_left i' j') in
            let path : path_in k (line_of bound k) ≡ q = ap (path_in k) st.taken_is ∙ sym path_is in
            let paths : reported bound ls ms m.above (lines_left i j) ≡ cond is_put (q ∷ below) below =
            ap (reported bound ls ms m.above) st.merged_is ∙ rw path in
            append_assoc m.rows_put row (rows_left (k ∷ m.above) i' j')
            ∙ ap (λ (t : List ℕ). m.rows_put ++ (t ++ rows_left (k ∷ m.above) i' j')) row_is
            ∙ ap (λ (t : List ℕ). m.rows_put ++ t)
            (by_test is_put (λ y. rw (paths, y) (append_assoc (row_of bound ls ms q) (newline ∷ []) (joined (rows_of bound ls ms below)))) (λ n. rw (paths, n)))
            ∙ m.rows_are

        pub report_room : told + length row ≤ length report'
        report_room = front_room row m.report_is (omega (arith, report-fits, ap length rows_next, length-append (m.rows_put ++ row) (rows_left (k ∷ m.above) i' j')))

        pub number_fits : (number ≤ length places) × (number ≤ length waiting) × (stored_for waiting number ≤ length others)
        number_fits =
            let small = number_small bound first second is_first is_second heads links places others count table m.waits q some number number_is in
            (omega (arith, small, table.few), omega (arith, small, m.waits.few), value_small bound first second is_first is_second heads links places others count table m.waits q some number number_is)

        pub merging_again : (book' report'' waiting' : List ℕ) (written' told' : ℕ) → book' ≡ put_at line written book → written' ≡ written + length line
            → report'' ≡ put_at row told report' → told' ≡ told + length row → waiting' ≡ without waiting number → Merging book₀ report₀ waiting' book' report'' i' j' written' told'
        merging_again book' report'' waiting' written' told' book-put written_is report-put told_is waiting-is =
            record {
              first_rest = st.first_rest;
              second_rest = st.second_rest;
              above = k ∷ m.above;
              waits = waits_again bound first second is_first is_second heads links places others count table m.waits q some number number_is k st.hull st.taken_is path_is waiting' waiting-is;
              lines_put = m.lines_put ++ line;
              book_is = front-append line m.book_is book-put written_is;
              lines_are = lines_next;
              rows_put = m.rows_put ++ row;
              report_is = front-append row m.report_is report-put told_is;
              rows_are = rows_next;
            }
