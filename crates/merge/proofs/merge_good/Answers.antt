-- `merge::merge_good` meets its contract.
use Rattle.std.specs.Prelude.{Ok}
use mathlib.Core.Path.{◌≡◌, sym}
use mathlib.Core.List.{List}
use Prim.Native.Nat.{ℕ, ◌+◌}
use native.Mathlib.Omega.{arith}
use lib.ListN.{length}
use Rattle.relative.specs.Relative.{max_pairs}
use Rattle.merge.specs.Lists.{lists_of}
use Rattle.merge.specs.Merge.{merged, report}
use Rattle.merge.specs.Theorems.{IsList}
use Rattle.merge.proofs.Checked.{lists_good}
use Rattle.merge.proofs.MergedBook.{length_merged}
use Rattle.merge.proofs.MergedAnswers.{book_of_list, merges_too_short, both_fit, merges_written}
use Rattle.merge.proofs.merge_good.Goals as goal

module _ (first second : List ℕ) (good : lists_of max_pairs first second ≡ Ok tt) where
  -- both lists are good
  both-lists : IsList max_pairs first × IsList max_pairs second
  both-lists = lists_good max_pairs first second good

  -- the length of the book
  book-length : length first + length second ≡ length (merged max_pairs first second)
  book-length = sym (length_merged max_pairs first second both-lists.0.whole both-lists.1.whole)

pub keep_lines-kept-requires : goal.keep_lines-kept-requires
keep_lines-kept-requires c = record { book_value = book_of_list max_pairs _ (both-lists c.args.first.now c.args.second.now c.requires).0; empty = c.new-table.ensures }

pub keep_lines-other_kept-requires : goal.keep_lines-other_kept-requires
keep_lines-other_kept-requires c = record { book_value = book_of_list max_pairs _ (both-lists c.args.first.now c.args.second.now c.requires).1; empty = c.new-other_table.ensures }

pub invariant_of-first : goal.invariant_of-first
invariant_of-first c = record { is_list = (both-lists c.args.first.now c.args.second.now c.requires).0; is_table = c.keep_lines-kept.ensures.table }

pub invariant_of-second : goal.invariant_of-second
invariant_of-second c = record { is_list = (both-lists c.args.first.now c.args.second.now c.requires).1; is_table = c.keep_lines-other_kept.ensures.table }

pub find_rows-report_length-requires : goal.find_rows-report_length-requires
find_rows-report_length-requires c =
    let table = c.keep_lines-kept.ensures.table in omega (arith, table.few, table.place_places, c.no_numbers-waiting.ensures)

pub overflow_add-book_length : goal.overflow_add-book_length
overflow_add-book_length c = let both = both-lists c.args.first.now c.args.second.now c.requires in record { fits = omega (arith, both.0.short, both.1.short) }

-- one of the rooms is too short
pub returns-then-book-book_length : goal.returns-then-book-book_length
returns-then-book-book_length c =
    let first = c.args.first.now in
    let second = c.args.second.now in
    let all = merges_too_short (merged max_pairs first second) c.args.book.now (report max_pairs first second) c.args.report.now _ _ (book-length first second c.requires)
    c.find_rows-report_length.ensures.value c.if-book-book_length.true in
    record { value = all.0; book_after = all.1.0; report_after = all.1.1 }

pub take_lines-requires : goal.take_lines-requires
take_lines-requires c =
    let first = c.args.first.now in
    let second = c.args.second.now in
    let fits = both_fit (merged max_pairs first second) c.args.book.now (report max_pairs first second) c.args.report.now _ _ (book-length first second c.requires)
    c.find_rows-report_length.ensures.value c.if-book-book_length.false in
    record { all_wait = c.find_rows-report_length.ensures.all_wait; book_fits = fits.0; report_fits = fits.1 }

pub returns : goal.returns
returns c =
    let first = c.args.first.now in
    let second = c.args.second.now in
    let length_is = book-length first second c.requires in
    let fits = both_fit (merged max_pairs first second) c.args.book.now (report max_pairs first second) c.args.report.now _ _ length_is c.find_rows-report_length.ensures.value
    c.if-book-book_length.false in
    let all = merges_written (merged max_pairs first second) c.args.book.now (report max_pairs first second) c.args.report.now _ _ length_is c.find_rows-report_length.ensures.value _ _ fits
    c.take_lines.ensures.book_after c.take_lines.ensures.report_after in
    record { value = all.0; book_after = all.1.0; report_after = all.1.1 }
