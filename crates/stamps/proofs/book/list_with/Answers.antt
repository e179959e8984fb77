-- `stamps::book::list_with` meets its contract.
use mathlib.Core.Path.{sym, ap, ◌∙◌}
use mathlib.Core.List.{List, ◌++◌}
use Prim.Native.Nat.{ℕ}
use native.Mathlib.Omega.{arith}
use lib.ListN.{length, drop}
use Rattle.std.proofs.lemmas.Result.{err_from_is_err_and}
use Rattle.relative.specs.Relative.{max_pairs}
use Rattle.time.specs.declared.Refusal.TheVariants.{Book}
use Rattle.stamps.specs.Listing.{listing}
use Rattle.stamps.proofs.Books.{check_of-long, check_of-good, check_of-bad, survey_ok, survey_err}
use Rattle.stamps.proofs.Marks.{marked_book}
use Rattle.stamps.proofs.Copies.{copies_refused, copies_too_short, copies_written}
use Rattle.stamps.proofs.book.list_with.Goals as goal

-- the book is too long
pub returns-then-book-gt-MAX_BOOK : goal.returns-then-book-gt-MAX_BOOK
returns-then-book-gt-MAX_BOOK c =
    let all = copies_refused (listing max_pairs c.args.book.now) c.args.room.now Book 0 (check_of-long max_pairs c.args.book.now c.if-book-gt-MAX_BOOK.true) in record { value = all.0; room_after = all.1 }

-- a line is bad
pub returns-in_err-length : goal.returns-in_err-length
returns-in_err-length c =
    let book = c.args.book.now in
    let p = err_from_is_err_and c.from_residual.result c.from_residual.ensures.1 in
    let bad = survey_err max_pairs book _ (sym c.judge_lines.ensures.value ∙ c.in_err-length.was) in
    let all = copies_refused (listing max_pairs book) c.args.room.now Book _ (check_of-bad max_pairs book _ c.if-book-gt-MAX_BOOK.false bad.0) in
    record { value = rw (p.1, p.2) all.0; room_after = all.1 }

-- the room is too short
pub returns-then-room-length : goal.returns-then-room-length
returns-then-room-length c =
    let book = c.args.book.now in
    let good = survey_ok max_pairs book _ (sym c.judge_lines.ensures.value ∙ c.in_ok-length.was) in
    let all = copies_too_short (listing max_pairs book) c.args.room.now (check_of-good max_pairs book c.if-book-gt-MAX_BOOK.false good.0) _ good.1 c.if-room-length.true in
    record { value = all.0; room_after = all.1 }

pub copy_marked-requires : goal.copy_marked-requires
copy_marked-requires c =
    let book = c.args.book.now in
    let good = survey_ok max_pairs book _ (sym c.judge_lines.ensures.value ∙ c.in_ok-length.was) in
    let p = marked_book max_pairs book _ _ c.if-book-gt-MAX_BOOK.false (omega arith) good.0 (c.judge_lines.ensures.marks_after good.0) in record {
      book_value = p.0;
      book_in_bounds = omega (arith, ap length p.1, good.1, c.if-room-length.false);
    }

pub returns : goal.returns
returns c =
    let book = c.args.book.now in
    let good = survey_ok max_pairs book _ (sym c.judge_lines.ensures.value ∙ c.in_ok-length.was) in
    let p = marked_book max_pairs book _ _ c.if-book-gt-MAX_BOOK.false (omega arith) good.0 (c.judge_lines.ensures.marks_after good.0) in
    let all = copies_written (listing max_pairs book) c.args.room.now (check_of-good max_pairs book c.if-book-gt-MAX_BOOK.false good.0) _ good.1 _ c.if-room-length.false
    (c.copy_marked.ensures ∙ ap (λ (bytes : List ℕ). bytes ++ drop (length bytes) c.args.room.now) p.1) in record { value = all.0; room_after = all.1 }
