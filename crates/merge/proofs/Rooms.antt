-- How long rooms must be. In order: the least length of a `hull` line; a report is at most nine eighths as long as the first list
-- (`length-report-le`); a room of 65,536 bytes for the book and one of 36,864 for the report are long enough for any two good lists (`good_lists_fit`).
-- Assumes nothing.
use Rattle.std.specs.Prelude.{Some, Ok}
use mathlib.Core.Path.{◌≡◌, ap}
use mathlib.Core.Bool.{true}
use mathlib.Core.List.{List, [], ◌∷◌, ◌++◌}
use Prim.Native.Nat.{ℕ, ◌+◌, ◌*◌, ◌≤◌, ◌<◌}
use native.Mathlib.Omega.{arith}
use borrow.Author.Tests.{le-leb}
use lib.ListN.{length, length-append}
use Rattle.text.specs.Lines.{tab, ended_lines, taken_by}
use Rattle.text.specs.Places.{part}
use Rattle.text.specs.Quote.{bytes}
use Rattle.text.proofs.Lists.{by_test, both}
use Rattle.text.proofs.Signed.{length-signed-pos}
use Rattle.time.specs.Header.{header_bytes, size_of}
use Rattle.time.specs.declared.Time.{Time}
use Rattle.time.proofs.Headers.{length-header_bytes}
use Rattle.stamps.specs.Lines.{line_of}
use Rattle.stamps.specs.Theorems.{is_hull_line}
use Rattle.stamps.specs.Writing.{hull_line}
use Rattle.stamps.specs.declared.line.Line.TheVariants.{Hull}
use Rattle.stamps.specs.declared.line.Hull.{Hull as HullValue}
use Rattle.stamps.proofs.Books.{taken_by-le}
use Rattle.stamps.proofs.HullLines.{parts_of_is_path, parts_of_is_key}
use Rattle.stamps.proofs.WriteBack.{hull_written_back}
use Rattle.stamps.proofs.Writing.{good_hull}
use Rattle.compact.specs.Compact.{is_kept, kept}
use Rattle.compact.specs.Theorems.{paths_in}
use Rattle.merge.specs.Lists.{lists_of}
use Rattle.merge.specs.Merge.{merged, report, is_differing, merge_of}
use Rattle.merge.specs.Theorems.{are_hulls}
use Rattle.merge.proofs.Checked.{lists_good}
use Rattle.merge.proofs.LastKeys.{hull_of_line}
use Rattle.merge.proofs.MergedBook.{length_merged}
use Rattle.merge.proofs.Totals.{total, weight, length-rows}

-- ---- the least length of a `hull` line
-- one digit, a space, a sign and four digits
le-length-header_bytes : (t : Time) → 7 ≤ length (header_bytes t)
unfolding size_of
le-length-header_bytes t = omega (arith, length-header_bytes t, length-signed-pos t.seconds)

length-hull_line : (path key : List ℕ) (t : Time) → length (hull_line path key t) ≡ 7 + length path + length key + length (header_bytes t)
unfolding hull_line
length-hull_line path key t =
    omega (
      arith,
      length-append ((bytes "hull" ++ tab ∷ path) ++ tab ∷ key) (tab ∷ header_bytes t),
      length-append (bytes "hull" ++ tab ∷ path) (tab ∷ key),
    )

module _ (bound : ℕ) where
  -- a path of one byte or more, and 30 bytes beside it
  hull_lengths : (l : List ℕ) (h : HullValue) → line_of bound l ≡ Some (Hull h) → (0 < length (part l h.path)) × (length (part l h.path) + 30 ≤ length l)
  hull_lengths l h e =
      let path = part l h.path in
      let key = part l h.key in
      let back = hull_written_back bound l h e in
      let good = good_hull path key h.time back.1 in (
        (parts_of_is_path path good.path_is).0,
        omega (arith, ap length back.0, length-hull_line path key h.time, (parts_of_is_key key good.key_is).0, le-length-header_bytes h.time),
      )

  -- ---- the length of a report
  module _ (ls ms : List (List ℕ)) where
    weight-le : (p : List ℕ) → weight bound ls ms p ≤ length p + 35
    unfolding weight
    weight-le p = by_test (is_differing bound ls ms p) (λ y. rw y (omega arith)) (λ n. rw n (omega arith))

    -- a row has 4 bytes more than the shortest line with its path, which has 32 bytes or more
    total-le : (ks : List (List ℕ)) → are_hulls bound ks ≡ true → 8 * total (weight bound ls ms) (paths_in bound (kept bound ks)) ≤ 9 * taken_by ks
    unfolding are_hulls kept paths_in total taken_by
    total-le [] e = omega arith
    total-le (k ∷ ks) e =
        let q = both (is_hull_line (line_of bound k)) (are_hulls bound ks) e in
        let below = total-le ks q.1 in
        let value = hull_of_line (line_of bound k) q.0 in
        let sizes = hull_lengths k value.0 value.1 in
        by_test (is_kept bound k (line_of bound k) ks) (λ y. rw (y, value.1) (omega (arith, below, sizes, weight-le (part k value.0.path))))
        (λ n. rw n (omega (arith, below)))

  module _ (first second : List ℕ) (good : lists_of bound first second ≡ Ok tt) where
    pub length-report-le : 8 * length (report bound first second) ≤ 9 * length first
    unfolding report
    length-report-le =
        let lists = lists_good bound first second good in
        let ls = ended_lines first in
        let ms = ended_lines second in
        omega (arith, length-rows bound ls ms lists.0.hulls lists.1.hulls, total-le ls ms ls lists.0.hulls, taken_by-le first)

    -- ---- both rooms
    pub good_lists_fit : (book room : List ℕ) → 65536 ≤ length book → 36864 ≤ length room
        → merge_of bound first second book room ≡ Ok (record { book = length (merged bound first second); report = length (report bound first second) })
    good_lists_fit book room a b =
        let lists = lists_good bound first second good in
        let whole : length (merged bound first second) ≤ length book = omega (arith, length_merged bound first second lists.0.whole lists.1.whole, lists.0.short, lists.1.short) in
        let rows : length (report bound first second) ≤ length room = omega (arith, length-report-le, lists.0.short) in
        rw (good, le-leb _ _ whole, le-leb _ _ rows)
