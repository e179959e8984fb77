-- `salvage::lines::take_lines` meets its contract. The invariant: what stands in front of `at` is taken, and with what the rest gives it makes the
-- answer for the whole. The measure is what is left.
use Rattle.std.specs.Prelude.{Option, None, Some}
use mathlib.Core.Path.{◌≡◌, refl, sym, ap, ◌∙◌}
use mathlib.Core.List.{List}
use Prim.Native.Nat.{ℕ}
use native.Mathlib.Omega.{arith}
use Rattle.relative.specs.Relative.{max_pairs}
use Rattle.stamps.specs.Book.{lines_in, first_bad, bad_number}
use Rattle.stamps.proofs.Books.{first_bad_of_zero}
use Rattle.salvage.proofs.Pass.{taking_start, taking_end, taking_whole, taking_again, run_has_room, rows_have_room, place_small, number_small, pos_of_not-zero}
use Rattle.salvage.proofs.lines.take_lines.Goals as goal

-- a bad line has a number, from 1
module _ {found : Option ℕ} (s : List ℕ) {bad : ℕ} (found_is : found ≡ first_bad 1 (lines_in max_pairs s)) (is : found ≡ Some bad) where
  numbered : bad ≡ bad_number (first_bad 1 (lines_in max_pairs s))
  numbered = ap bad_number (sym is ∙ found_is)

  not-zero : bad ≡ 0 → ⊥
  not-zero z = let none : Some bad ≡ None = sym is ∙ found_is ∙ first_bad_of_zero (lines_in max_pairs s) (sym numbered ∙ z) in cc

pub loop-at-init : goal.loop-at-init
loop-at-init c =
    taking_start max_pairs c.args.book.now c.args.room.now c.args.report.now

-- the place behind the bad line
pub overflow_add-next-in-loop-at : goal.overflow_add-next-in-loop-at
overflow_add-next-in-loop-at c =
    let ran = c.good_run_with-run.ensures in
    record { fits = omega (arith, place_small c.loop-at.invariant _ _ _ c.from-rest.ensures (ap bad_number ran.0) ran.1 c.requires.book_len_bound c.loop-at-test.true _ c.from.ensures _ c.first_place-size.ensures.0) }

pub put_if_room-length-requires : goal.put_if_room-length-requires
put_if_room-length-requires c =
    let ran = c.good_run_with-run.ensures in
    run_has_room c.loop-at.invariant _ _ _ c.from-rest.ensures (ap bad_number ran.0) ran.1 _ c.up_to.ensures c.requires.book_len_bound

-- all that is left is good
pub returns-in_default : goal.returns-in_default
returns-in_default c =
    let ran = c.good_run_with-run.ensures in
    let all = taking_whole c.loop-at.invariant _ _ _ c.from-rest.ensures (ap bad_number ran.0) ran.1 _ c.up_to.ensures _ _ c.put_if_room-length.ensures.room_after c.put_if_room-length.ensures.value (ap bad_number c.in_default.is) in record { length_value = all.0; room_after = all.1.0; report_after = all.1.1 }

-- the number of the bad line
pub overflow_sub-number : goal.overflow_sub-number
overflow_sub-number c = pos_of_not-zero _ (not-zero _ c.good_run_with-run.ensures.0 c.in-Some.is)

pub overflow_add-number : goal.overflow_add-number
overflow_add-number c =
    let ran = c.good_run_with-run.ensures in
    record { fits = omega (arith, number_small c.loop-at.invariant _ _ _ c.from-rest.ensures (numbered _ ran.0 c.in-Some.is) ran.1 c.requires.book_len_bound) }

pub overflow_add-number-in-loop-at : goal.overflow_add-number-in-loop-at
overflow_add-number-in-loop-at c =
    let ran = c.good_run_with-run.ensures in
    record { fits = omega (arith, number_small c.loop-at.invariant _ _ _ c.from-rest.ensures (numbered _ ran.0 c.in-Some.is) ran.1 c.requires.book_len_bound) }

pub put_row_if_room-report_length-requires : goal.put_row_if_room-report_length-requires
put_row_if_room-report_length-requires c =
    rows_have_room c.loop-at.invariant c.requires.book_len_bound

pub overflow_add-at : goal.overflow_add-at
overflow_add-at c =
    let ran = c.good_run_with-run.ensures in
    record { fits = omega (arith, place_small c.loop-at.invariant _ _ _ c.from-rest.ensures (ap bad_number ran.0) ran.1 c.requires.book_len_bound c.loop-at-test.true _ c.from.ensures _ c.first_place-size.ensures.0) }

-- a bad line follows
pub loop-at-preserved : goal.loop-at-preserved
loop-at-preserved c =
    let ran = c.good_run_with-run.ensures in
    taking_again c.loop-at.invariant _ _ _ c.from-rest.ensures (numbered _ ran.0 c.in-Some.is) ran.1 _ c.up_to.ensures _ _ c.put_if_room-length.ensures.room_after c.put_if_room-length.ensures.value
    c.loop-at-test.true _ c.from.ensures _ c.first_place-size.ensures.0 (not-zero _ ran.0 c.in-Some.is) _ _ _ _ refl refl c.put_row_if_room-report_length.ensures.report_after c.put_row_if_room-report_length.ensures.value

pub returns : goal.returns
returns c =
    let all = taking_end c.loop-at.invariant c.loop-at-test.false in record { length_value = all.0; room_after = all.1.0; report_after = all.1.1 }
