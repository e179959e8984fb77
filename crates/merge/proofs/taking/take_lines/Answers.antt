-- `merge::taking::take_lines` meets its contract. The invariant: the lines up to i and j are taken, and are put into the book, and their rows into the
-- report. The measure is how much is left of both lists.
use mathlib.Core.Path.{◌≡◌, refl, sym, ap, ◌∙◌}
use mathlib.Core.Bool.{Bool, true, false, cond, not, ◌||◌, false≢true}
use mathlib.Core.Logic.{◌⊎◌, inl, inr}
use mathlib.Core.List.{List, [], ◌∷◌}
use Prim.Native.Nat.{ℕ, ◌+◌, ◌≤◌, ◌<◌}
use native.Mathlib.Omega.{arith}
use borrow.Author.Tests.{ltb-true, ltb-false}
use lib.Dec.{ltb}
use lib.ListN.{length, length-append}
use Rattle.text.specs.Bytes.{same}
use Rattle.text.specs.Lines.{newline}
use Rattle.text.proofs.Lists.{by_test}
use Rattle.relative.specs.Relative.{max_pairs}
use Rattle.compact.specs.Held.{path_at, found_number, IsTable}
use Rattle.merge.specs.Fronts.{earlier_line}
use Rattle.merge.specs.Theorems.{IsList}
use Rattle.merge.specs.Held.{front_from}
use Rattle.merge.proofs.WaitingRows.{length_without}
use Rattle.merge.proofs.TakenLines.{Step, Taken, take-one, sizes-add-up, step_by}
use Rattle.merge.proofs.MergePass.{Merging, merging_start, merging_end, book_room, report_room, number_fits, merging_again}
use Rattle.merge.proofs.taking.take_lines.Goals as goal

-- ---- one of two lists goes on, or neither
some_left : (i n j m : ℕ) → (ltb i n || ltb j m) ≡ true → (i < n) ⊎ (j < m)
some_left i n j m e = by_test (ltb i n) (λ y. inl (ltb-true i n y)) (λ f. inr (ltb-true j m (rw f at e)))

none_left : (i n j m : ℕ) → (ltb i n || ltb j m) ≡ false → (n ≤ i) × (m ≤ j)
none_left i n j m e = by_test (ltb i n) (λ y. absurd (false≢true (sym (rw y at e)))) (λ f. (ltb-false i n f, ltb-false j m (rw f at e)))

-- the number of the line's path
number : (first heads links places line : List ℕ) {path : List ℕ} {n : ℕ} → n ≡ found_number first heads links places path → path ≡ path_at line → n ≡ found_number first heads links places (path_at line)
number first heads links places line found path_is = found ∙ ap (found_number first heads links places) path_is

-- ---- the line that is taken
module _ (first second heads links places others : List ℕ) (is_first : IsList max_pairs first) (is_second : IsList max_pairs second) (count : ℕ) (table : IsTable max_pairs first heads links places count)
    {book₀ report₀ waiting book report : List ℕ} {i j written told : ℕ}
    (m : Merging max_pairs first second is_first is_second heads links places others count table book₀ report₀ waiting book report i j written told)
    (more : (ltb i (length first) || ltb j (length second)) ≡ true) (front other line : List ℕ) (front_is : front ≡ front_from first i) (other_is : other ≡ front_from second j)
    (line_is : line ≡ earlier_line max_pairs front other) where
  taken : Taken max_pairs first second i j front other line line_is
  taken = take-one max_pairs first second i j front other line line_is m.first_rest m.second_rest front_is other_is (some_left i (length first) j (length second) more)

  -- whichever machine's it is
  step : (i' : ℕ) × (j' : ℕ) × Step max_pairs first second i j line i' j'
  step = by_test (same line front) (λ y. (_, _, taken.0 y)) (λ n. (_, _, taken.1 n))

  size-pos : 0 < length line
  size-pos = let st = step.2 in omega (arith, ap length st.line_is, length-append st.taken (newline ∷ []))

  -- how far both lists are passed: one of them by the line, the other not at all
  passed : (from_first : Bool) → from_first ≡ same line front → (r s : ℕ) → r ≡ cond from_first (length line) 0 → s ≡ cond (not from_first) (length line) 0
      → Step max_pairs first second i j line (i + r) (j + s)
  passed from_first e r s r-is s-is = step_by max_pairs first second i j line from_first _ r s r-is s-is (λ y. taken.0 (sym e ∙ y)) (λ n. taken.1 (sym e ∙ n))

pub loop-i-init : goal.loop-i-init
loop-i-init c = (
  merging_start max_pairs c.args.first.now.list.now c.args.second.now.list.now c.args.first.now.is_list c.args.second.now.is_list _ _ _ _ _ c.args.first.now.is_table _ _ _ c.requires.all_wait,
  refl,
)

pub put_part-written-requires : goal.put_part-written-requires
put_part-written-requires c =
    let first = c.args.first.now.list.now in
    let second = c.args.second.now.list.now in
    let heads = c.args.first.now.table.now.heads in
    let links = c.args.first.now.table.now.links in
    let places = c.args.first.now.table.now.places in
    let others = c.args.second.now.table.now.places in
    let inv = c.loop-i.invariant in
    let next = step first second heads links places others c.args.first.now.is_list c.args.second.now.is_list c.args.first.now.count c.args.first.now.is_table inv.0 c.loop-i-test.true _ _ _ c.front_at-front.ensures c.front_at-other.ensures c.earlier-line.ensures in
    book_room max_pairs first second c.args.first.now.is_list c.args.second.now.is_list heads links places others c.args.first.now.count c.args.first.now.is_table inv.0 c.requires.book_fits c.requires.report_fits c.earlier-line.result.now next.0 next.1 next.2

pub find-number-requires : goal.find-number-requires
find-number-requires c = (_, c.args.first.now.is_table)

pub put_row_if_waiting-told-requires : goal.put_row_if_waiting-told-requires
put_row_if_waiting-told-requires c =
    let first = c.args.first.now.list.now in
    let second = c.args.second.now.list.now in
    let heads = c.args.first.now.table.now.heads in
    let links = c.args.first.now.table.now.links in
    let places = c.args.first.now.table.now.places in
    let others = c.args.second.now.table.now.places in
    let inv = c.loop-i.invariant in
    let line = c.earlier-line.result.now in
    let next = step first second heads links places others c.args.first.now.is_list c.args.second.now.is_list c.args.first.now.count c.args.first.now.is_table inv.0 c.loop-i-test.true _ _ _ c.front_at-front.ensures c.front_at-other.ensures c.earlier-line.ensures in
    let found = number first heads links places line c.find-number.ensures c.path_at.ensures in record {
      number_in_bounds =
          number_fits max_pairs first second c.args.first.now.is_list c.args.second.now.is_list heads links places others c.args.first.now.count c.args.first.now.is_table inv.0 c.requires.book_fits c.requires.report_fits line next.0 next.1 next.2 c.find-number.result found;
      row_in_bounds =
          report_room max_pairs first second c.args.first.now.is_list c.args.second.now.is_list heads links places others c.args.first.now.count c.args.first.now.is_table inv.0 c.requires.book_fits c.requires.report_fits line next.0 next.1 next.2 c.find-number.result found;
    }

pub overflow_add-i : goal.overflow_add-i
overflow_add-i c =
    let inv = c.loop-i.invariant in
    let next = passed c.args.first.now.list.now c.args.second.now.list.now c.args.first.now.table.now.heads c.args.first.now.table.now.links c.args.first.now.table.now.places c.args.second.now.table.now.places c.args.first.now.is_list c.args.second.now.is_list c.args.first.now.count c.args.first.now.is_table inv.0 c.loop-i-test.true _ _ _ c.front_at-front.ensures
    c.front_at-other.ensures c.earlier-line.ensures _ c.same-from_first.ensures _ _ c.size_if-i.ensures refl in
    record { fits = omega (arith, next.first_rest.within, c.args.first.now.is_list.short) }

pub overflow_add-j : goal.overflow_add-j
overflow_add-j c =
    let inv = c.loop-i.invariant in
    let next = passed c.args.first.now.list.now c.args.second.now.list.now c.args.first.now.table.now.heads c.args.first.now.table.now.links c.args.first.now.table.now.places c.args.second.now.table.now.places c.args.first.now.is_list c.args.second.now.is_list c.args.first.now.count c.args.first.now.is_table inv.0 c.loop-i-test.true _ _ _ c.front_at-front.ensures
    c.front_at-other.ensures c.earlier-line.ensures _ c.same-from_first.ensures _ _ c.size_if-i.ensures c.size_if-j.ensures in
    record { fits = omega (arith, next.second_rest.within, c.args.second.now.is_list.short) }

-- what is left is less
pub loop-i-smaller : goal.loop-i-smaller
loop-i-smaller c =
    let first = c.args.first.now.list.now in
    let second = c.args.second.now.list.now in
    let heads = c.args.first.now.table.now.heads in
    let links = c.args.first.now.table.now.links in
    let places = c.args.first.now.table.now.places in
    let others = c.args.second.now.table.now.places in
    let inv = c.loop-i.invariant in
    let next = passed first second heads links places others c.args.first.now.is_list c.args.second.now.is_list c.args.first.now.count c.args.first.now.is_table inv.0 c.loop-i-test.true _ _ _ c.front_at-front.ensures c.front_at-other.ensures c.earlier-line.ensures _
    c.same-from_first.ensures _ _ c.size_if-i.ensures c.size_if-j.ensures in
    let some = size-pos first second heads links places others c.args.first.now.is_list c.args.second.now.is_list c.args.first.now.count c.args.first.now.is_table inv.0 c.loop-i-test.true _ _ _ c.front_at-front.ensures c.front_at-other.ensures c.earlier-line.ensures in
    omega (arith, next.first_rest.within, next.second_rest.within, sizes-add-up c.same-from_first.result _ _ _ c.size_if-i.ensures c.size_if-j.ensures, some)

-- by one line more
pub loop-i-preserved : goal.loop-i-preserved
loop-i-preserved c =
    let first = c.args.first.now.list.now in
    let second = c.args.second.now.list.now in
    let heads = c.args.first.now.table.now.heads in
    let links = c.args.first.now.table.now.links in
    let places = c.args.first.now.table.now.places in
    let others = c.args.second.now.table.now.places in
    let inv = c.loop-i.invariant in
    let line = c.earlier-line.result.now in
    let next = passed first second heads links places others c.args.first.now.is_list c.args.second.now.is_list c.args.first.now.count c.args.first.now.is_table inv.0 c.loop-i-test.true _ _ _ c.front_at-front.ensures c.front_at-other.ensures c.earlier-line.ensures _
    c.same-from_first.ensures _ _ c.size_if-i.ensures c.size_if-j.ensures in
    let found = number first heads links places line c.find-number.ensures c.path_at.ensures in
    let told = c.put_row_if_waiting-told.ensures in (
      merging_again max_pairs first second c.args.first.now.is_list c.args.second.now.is_list heads links places others c.args.first.now.count c.args.first.now.is_table inv.0 c.requires.book_fits c.requires.report_fits line _ _ next c.find-number.result found _ _ _ _ _
          c.put_part-written.ensures.room_after c.put_part-written.ensures.value told.report_after told.value told.waiting_after,
      ap length told.waiting_after ∙ length_without [] [] [] [] [] c.loop-i.waiting c.find-number.result ∙ inv.1,
    )

pub returns : goal.returns
returns c =
    let inv = c.loop-i.invariant in
    let none = none_left c.loop-i.i (length c.args.first.now.list.now) c.loop-i.j (length c.args.second.now.list.now) c.loop-i-test.false in
    let all = merging_end max_pairs c.args.first.now.list.now c.args.second.now.list.now c.args.first.now.is_list c.args.second.now.is_list c.args.first.now.table.now.heads c.args.first.now.table.now.links c.args.first.now.table.now.places c.args.second.now.table.now.places c.args.first.now.count c.args.first.now.is_table inv.0 c.requires.book_fits
    c.requires.report_fits none.0 none.1 in
    record { book_after = all.0; report_after = all.1 }
