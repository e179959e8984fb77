-- A pass over a book, run by run. In order: the rows of lines that are dropped; the pass at the start, at the end, after a run of good lines behind which
-- nothing is left, and after one with the bad line behind it.
-- Assumes nothing.
use mathlib.Core.Path.{◌≡◌, refl, sym, ap, ◌∙◌}
use mathlib.Core.List.{List, [], ◌∷◌, ◌++◌, append_assoc, append-nil}
use Prim.Native.Nat.{ℕ, zero, suc, ◌+◌, ◌-◌, ◌*◌, ◌≤◌, ◌<◌}
use native.Mathlib.Omega.{arith}
use lib.ListN.{length, take, drop, length-append, length-drop, drop_of_length-le}
use lib.Seq.{drop-drop}
use Rattle.text.specs.Lines.{newline}
use Rattle.text.specs.Places.{first_place}
use Rattle.stamps.specs.Book.{max_book, lines_in, first_bad, bad_number}
use Rattle.stamps.specs.Copies.{joined}
use Rattle.stamps.proofs.Books.{behind}
use Rattle.salvage.specs.Salvage.{Dropped, salvaged, dropped, last_number, row_of, rows_of, report}
use Rattle.salvage.specs.Held.{ended_row, put_if_room}
use Rattle.salvage.proofs.Runs.{dropped_below, dropped_below_none, drop_at, front_size, below-nil, salvaged-nil, first_place-le-length, run_within, run_kept, run_whole, run_then_bad}
use Rattle.salvage.proofs.PutRows.{Fitting, fitting_start, fitting-append, fitting_whole}
use Rattle.salvage.proofs.Rooms.{length-salvaged-le, length-report-le}

pub pos_of_not-zero : (n : ℕ) → (n ≡ 0 → ⊥) → 0 < n
pos_of_not-zero zero h = absurd (h refl)
pos_of_not-zero (suc n) h = omega arith

-- ---- the rows of lines that are dropped
abbrev row_bytes : List Dropped → List ℕ
row_bytes ds = joined (rows_of ds)

row_bytes-cons : (n size : ℕ) (ds : List Dropped) → row_bytes (drop_at n size ∷ ds) ≡ ended_row n size ++ row_bytes ds
unfolding rows_of joined
row_bytes-cons n size ds = sym (append_assoc (row_of (drop_at n size)) (newline ∷ []) (joined (rows_of ds)))

-- ---- the pass: what stands in front of the place `at` is taken, so many lines. Its good lines are `kept`, and the rows of its bad ones are `rows`
pub record Taking (bound : ℕ) (book room₀ report₀ room report' : List ℕ) (at number size told last : ℕ) : Type 0 where
  pub lines : ℕ
  pub number_is : number ≡ suc lines
  pub kept : List ℕ
  pub rows : List ℕ
  pub kept_is : salvaged bound book ≡ kept ++ salvaged bound (drop at book)
  pub rows_are : report bound book ≡ rows ++ row_bytes (dropped_below bound lines (drop at book))
  pub last_is : last_number 0 (dropped bound book) ≡ last_number last (dropped_below bound lines (drop at book))
  pub in_room : Fitting kept room₀ room size
  pub in_report : Fitting rows report₀ report' told
  pub fewer : lines ≤ at
  pub within : at ≤ length book + 1

-- what the pass finds, and both rooms afterwards
abbrev Taken : ℕ → List ℕ → List ℕ → List ℕ → List ℕ → List ℕ → ℕ → ℕ → ℕ → Type 0
Taken bound book room₀ report₀ room report' size told last =
    ((size ≡ length (salvaged bound book)) × (told ≡ length (report bound book)) × (last ≡ last_number 0 (dropped bound book)))
    × ((length (salvaged bound book) ≤ length room₀ → room ≡ salvaged bound book ++ drop (length (salvaged bound book)) room₀)
    × (length (report bound book) ≤ length report₀ → report' ≡ report bound book ++ drop (length (report bound book)) report₀))

pub taking_start : (bound : ℕ) (book room report' : List ℕ) → Taking bound book room report' room report' 0 1 0 0 0
unfolding report
taking_start bound book room report' = record {
  lines = 0;
  number_is = refl;
  kept = [];
  rows = [];
  kept_is = refl;
  rows_are = ap row_bytes (dropped_below_none bound book);
  last_is = ap (last_number 0) (dropped_below_none bound book);
  in_room = fitting_start room;
  in_report = fitting_start report';
  fewer = omega arith;
  within = omega arith;
}

-- all is taken
taken : (bound : ℕ) (book room₀ report₀ room report' kept rows : List ℕ) (size told last : ℕ)
    → salvaged bound book ≡ kept → report bound book ≡ rows → last_number 0 (dropped bound book) ≡ last → Fitting kept room₀ room size → Fitting rows report₀ report' told
    → Taken bound book room₀ report₀ room report' size told last
taken bound book room₀ report₀ room report' kept rows size told last k r l f g =
    rw (k, r, l) ((f.place, g.place, refl), (λ h. fitting_whole kept room₀ room size f h, λ h. fitting_whole rows report₀ report' told g h))

module _ {bound : ℕ} {book room₀ report₀ room report' : List ℕ} {at number size told last : ℕ} (t : Taking bound book room₀ report₀ room report' at number size told last) where
  -- no line is left
  pub taking_end : length book ≤ at → Taken bound book room₀ report₀ room report' size told last
  unfolding rows_of joined last_number
  taking_end h =
      let d : drop at book ≡ [] = drop_of_length-le book h in
      let none = below-nil bound t.lines (drop at book) d in
      taken bound book room₀ report₀ room report' t.kept t.rows size told last
      (t.kept_is ∙ ap (λ (x : List ℕ). t.kept ++ x) (ap (salvaged bound) d ∙ salvaged-nil bound) ∙ append-nil t.kept)
      (t.rows_are ∙ ap (λ (ds : List Dropped). t.rows ++ row_bytes ds) none ∙ append-nil t.rows)
      (t.last_is ∙ ap (last_number last) none) t.in_room t.in_report

  pub rows_have_room : length book ≤ max_book → told ≤ 8 * max_book
  rows_have_room h =
      omega (arith, t.in_report.place, length-append t.rows (row_bytes (dropped_below bound t.lines (drop at book))), ap length t.rows_are, length-report-le bound book h)

  module _ (s : List ℕ) (bad end : ℕ) (is : s ≡ drop at book) (bad-is : bad ≡ bad_number (first_bad 1 (lines_in bound s))) (end_is : end ≡ front_size bound s) where
    rest_kept : salvaged bound book ≡ t.kept ++ take end s ++ salvaged bound (behind (drop end s))
    rest_kept =
        t.kept_is ∙ ap (λ (x : List ℕ). t.kept ++ salvaged bound x) (sym is) ∙ ap (λ (x : List ℕ). t.kept ++ x) (run_kept bound bad end s bad-is end_is)
        ∙ sym (append_assoc t.kept (take end s) (salvaged bound (behind (drop end s))))

    -- a run of good lines has room
    pub run_has_room : (part : List ℕ) → part ≡ take end s → length book ≤ max_book → size + length part ≤ max_book
    run_has_room part part-is h =
        omega (
          arith,
          t.in_room.place,
          length-append t.kept (take end s),
          length-append (t.kept ++ take end s) (salvaged bound (behind (drop end s))),
          ap length rest_kept,
          ap length part-is,
          length-salvaged-le bound book,
        )

    -- the place behind the line that follows the run, and the number of that line
    pub line_within : at < length book → (tail : List ℕ) → tail ≡ drop end s → (line : ℕ) → line ≡ first_place newline tail → at + (end + line + 1) ≤ length book + 1
    line_within some tail tail_is line line_is =
        omega (
          arith,
          (run_within bound bad end s bad-is end_is).0,
          line_is,
          first_place-le-length tail,
          ap length tail_is,
          length-drop end s,
          ap length is,
          length-drop at book,
        )

    pub bad_within : number + (bad - 1) ≤ 2 * length book + 2
    bad_within = omega (arith, t.number_is, t.fewer, t.within, run_within bound bad end s bad-is end_is, ap length is, length-drop at book)

    -- both are small, as the book is
    pub place_small : length book ≤ max_book → at < length book → (tail : List ℕ) → tail ≡ drop end s → (line : ℕ) → line ≡ first_place newline tail → at + (end + line + 1) ≤ max_book + 1
    place_small h some tail tail_is line line_is = omega (arith, line_within some tail tail_is line line_is)

    pub number_small : length book ≤ max_book → number + (bad - 1) ≤ 2 * max_book + 2
    number_small h = omega (arith, bad_within)

    module _ (part : List ℕ) (part-is : part ≡ take end s) (room' : List ℕ) (size' : ℕ) (put : room' ≡ put_if_room part size room) (size_is : size' ≡ size + length part) where
      pub kept_fits : Fitting (t.kept ++ take end s) room₀ room' size'
      kept_fits =
          fitting-append (take end s) t.in_room (put ∙ ap (λ (x : List ℕ). put_if_room x size room) part-is) (size_is ∙ ap (λ (x : List ℕ). size + length x) part-is)

      -- all that is left is good
      pub taking_whole : bad ≡ 0 → Taken bound book room₀ report₀ room' report' size' told last
      unfolding rows_of joined last_number
      taking_whole z =
          let p = run_whole bound bad end s bad-is end_is t.lines z in
          let none : dropped_below bound t.lines (drop at book) ≡ [] = ap (dropped_below bound t.lines) (sym is) ∙ p.1 in
          taken bound book room₀ report₀ room' report' (t.kept ++ take end s) t.rows size' told last
          (rest_kept ∙ ap (λ (x : List ℕ). t.kept ++ take end s ++ x) (ap (salvaged bound) p.0 ∙ salvaged-nil bound) ∙ append-nil (t.kept ++ take end s))
          (t.rows_are ∙ ap (λ (ds : List Dropped). t.rows ++ row_bytes ds) none ∙ append-nil t.rows)
          (t.last_is ∙ ap (last_number last) none) kept_fits t.in_report

      -- a bad line follows
      module _ (some : at < length book) (tail : List ℕ) (tail_is : tail ≡ drop end s) (line : ℕ) (line-of-tail : line ≡ first_place newline tail) (not-zero : bad ≡ 0 → ⊥) where
        line_is : line ≡ first_place newline (drop end s)
        line_is = line-of-tail ∙ ap (first_place newline) tail_is

        pub taking_again : (number' number'' told' : ℕ) (report'' : List ℕ) → number' ≡ number + (bad - 1) → number'' ≡ number' + 1 → report'' ≡ put_if_room (ended_row number' line) told report'
            → told' ≡ told + length (ended_row number' line) → Taking bound book room₀ report₀ room' report'' (at + (end + line + 1)) number'' size' told' number'
        unfolding last_number
        taking_again number' number'' told' report'' bad-number next-number row told_is =
            let next = at + (end + line + 1) in
            let e : end + (line + 1) ≡ end + line + 1 = omega arith in
            let d : behind (drop end s) ≡ drop next book =
            ap (λ (k : ℕ). drop (k + 1) (drop end s)) (sym line_is) ∙ drop-drop (line + 1) end s ∙ (λ i. drop (e i) (is i)) ∙ drop-drop (end + line + 1) at book in
            let some-bad : 0 < bad = pos_of_not-zero bad not-zero in
            let k : t.lines + bad ≡ number' = omega (arith, bad-number, t.number_is) in
            let after = dropped_below bound (t.lines + bad) (drop next book) in
            let below : dropped_below bound t.lines (drop at book) ≡ drop_at number' line ∷ after =
            ap (dropped_below bound t.lines) (sym is) ∙ run_then_bad bound bad end s bad-is end_is t.lines not-zero
            ∙ (λ i. drop_at (k i) (sym line_is i) ∷ dropped_below bound (t.lines + bad) (d i)) in
            let inside = run_within bound bad end s bad-is end_is in
            record {
              lines = t.lines + bad;
              number_is = omega (arith, next-number, k);
              kept = t.kept ++ take end s;
              rows = t.rows ++ ended_row number' line;
              kept_is = rest_kept ∙ ap (λ (x : List ℕ). t.kept ++ take end s ++ salvaged bound x) d;
              rows_are = t.rows_are ∙ ap (λ (ds : List Dropped). t.rows ++ row_bytes ds) below ∙ ap (λ (x : List ℕ). t.rows ++ x) (row_bytes-cons number' line after)
                  ∙ sym (append_assoc t.rows (ended_row number' line) (row_bytes after));
              last_is = t.last_is ∙ ap (last_number last) below;
              in_room = kept_fits;
              in_report = fitting-append (ended_row number' line) t.in_report row told_is;
              fewer = omega (arith, inside.1, t.fewer);
              within = line_within some tail tail_is line line-of-tail;
            }
