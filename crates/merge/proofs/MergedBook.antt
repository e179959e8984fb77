-- What a caller can say of the merged book. In order: `hull` lines are good; the length of the merged book (`length_merged`); merging
-- with an empty list (`merge_with_empty_first`, `merge_with_empty_second`); for two good lists, the lines of the merged book (`ended_lines-merged`), which is a
-- good book (`merged_book_is_good`) whose seconds never fall (`merged_book_is_sorted`), with the lines of the first list first where seconds are the
-- same (`merged_book_is_stable`).
-- Assumes nothing.
use Rattle.std.specs.Prelude.{None, Ok, Ok}
use mathlib.Core.Path.{◌≡◌, refl, ap, ◌∙◌}
use mathlib.Core.Bool.{true}
use mathlib.Core.List.{List, [], ◌∷◌, ◌++◌}
use Prim.Native.Nat.{ℕ, ◌+◌}
use native.Mathlib.Omega.{arith}
use lib.IntN.{ℤ}
use lib.ListN.{length}
use Rattle.text.specs.Lines.{newline, ended_lines, left}
use Rattle.text.proofs.Lists.{both}
use Rattle.text.proofs.Texts.{Lacking}
use Rattle.stamps.specs.Lines.{line_of}
use Rattle.stamps.specs.Book.{judged, check_of}
use Rattle.stamps.specs.Copies.{joined}
use Rattle.stamps.specs.Theorems.{are_good, is_hull_line}
use Rattle.stamps.proofs.Books.{length-joined, ended_lines-nil}
use Rattle.stamps.proofs.Listings.{good_of_hull, joined_good_iff, lacking_of_good, ended_lines-joined}
use Rattle.stamps.proofs.WholeTexts.{joined_of_whole}
use Rattle.merge.specs.Lists.{lists_of}
use Rattle.merge.specs.Merge.{merged_lines, merged}
use Rattle.merge.specs.Theorems.{Shuffle, are_hulls, is_sorted, lines_at}
use Rattle.merge.proofs.Checked.{lists_good}
use Rattle.merge.proofs.MergedLines.{merged_lines-nil-left, merged_lines-nil-right, merged_is_a_shuffle, taken_by-merged_lines, are_hulls-merged_lines}
use Rattle.merge.proofs.Orders.{merged_is_sorted, merge_is_stable}

-- ---- `hull` lines are good
module _ (bound : ℕ) where
  pub good_of_hulls : (ls : List (List ℕ)) → are_hulls bound ls ≡ true → are_good (judged bound ls) ≡ true
  unfolding are_hulls judged are_good
  good_of_hulls [] e = refl
  good_of_hulls (l ∷ ls) e =
      let p = both (is_hull_line (line_of bound l)) (are_hulls bound ls) e in
      rw (good_of_hull (line_of bound l) p.0) (good_of_hulls ls p.1)

  -- ---- the merged book is as long as both lists
  pub length_merged : (first second : List ℕ) → left first ≡ [] → left second ≡ [] → length (merged bound first second) ≡ length first + length second
  unfolding merged
  length_merged first second a b =
      let ls = ended_lines first in
      let ms = ended_lines second in
      omega (
        arith,
        length-joined (merged_lines bound ls ms),
        taken_by-merged_lines bound ls ms,
        length-joined ls,
        length-joined ms,
        ap length (joined_of_whole first a),
        ap length (joined_of_whole second b),
      )

  -- ---- merging with an empty list gives the other list
  module _ (list : List ℕ) (whole : left list ≡ []) where
    pub merge_with_empty_first : merged bound [] list ≡ list
    unfolding merged
    merge_with_empty_first = rw ended_lines-nil (ap joined (merged_lines-nil-left bound (ended_lines list)) ∙ joined_of_whole list whole)

    pub merge_with_empty_second : merged bound list [] ≡ list
    unfolding merged
    merge_with_empty_second = rw ended_lines-nil (ap joined (merged_lines-nil-right bound (ended_lines list)) ∙ joined_of_whole list whole)

  -- ---- two good lists
  module _ (first second : List ℕ) (good : lists_of bound first second ≡ Ok tt) where
    -- all of the merged lines are good
    good_merged : are_good (judged bound (merged_lines bound (ended_lines first) (ended_lines second))) ≡ true
    good_merged =
        let lists = lists_good bound first second good in
        good_of_hulls (merged_lines bound (ended_lines first) (ended_lines second)) (are_hulls-merged_lines bound (ended_lines first) (ended_lines second) ∙ rw (lists.0.hulls, lists.1.hulls))

    -- so none holds a newline
    lacking_merged : Lacking newline (merged_lines bound (ended_lines first) (ended_lines second))
    lacking_merged = lacking_of_good bound (merged_lines bound (ended_lines first) (ended_lines second)) good_merged

    -- the lines of the merged book are the merged lines
    pub ended_lines-merged : ended_lines (merged bound first second) ≡ merged_lines bound (ended_lines first) (ended_lines second)
    unfolding merged
    ended_lines-merged = ended_lines-joined (merged_lines bound (ended_lines first) (ended_lines second)) lacking_merged

    -- every line is in it, and each list's lines keep their order
    pub merged_book_is_a_shuffle : Shuffle (ended_lines first) (ended_lines second) (ended_lines (merged bound first second))
    merged_book_is_a_shuffle = rw ended_lines-merged (merged_is_a_shuffle bound (ended_lines first) (ended_lines second))

    -- it is a good book
    pub merged_book_is_good : check_of bound (merged bound first second) ≡ Ok tt
    unfolding merged
    merged_book_is_good =
        let lists = lists_good bound first second good in
        (joined_good_iff bound (merged_lines bound (ended_lines first) (ended_lines second)) lacking_merged
        (omega (arith, length_merged first second lists.0.whole lists.1.whole, lists.0.short, lists.1.short))).1 good_merged

    -- its seconds never fall
    pub merged_book_is_sorted : is_sorted bound None (ended_lines (merged bound first second)) ≡ true
    merged_book_is_sorted =
        let lists = lists_good bound first second good in
        rw ended_lines-merged (merged_is_sorted bound None (ended_lines first) (ended_lines second) lists.0.sorted lists.1.sorted)

    -- of the lines with the same seconds the first list's come first, and each list's keep their order
    pub merged_book_is_stable : (z : ℤ) → lines_at bound z (ended_lines (merged bound first second)) ≡ lines_at bound z (ended_lines first) ++ lines_at bound z (ended_lines second)
    merged_book_is_stable z =
        let lists = lists_good bound first second good in
        rw ended_lines-merged (merge_is_stable bound z None (ended_lines first) (ended_lines second) lists.0.hulls lists.0.sorted)
