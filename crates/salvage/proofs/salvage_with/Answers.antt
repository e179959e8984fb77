-- `salvage::salvage_with` meets its contract.
use mathlib.Core.Path.{sym, ◌∙◌}
use Rattle.relative.specs.Relative.{max_pairs}
use Rattle.salvage.proofs.Answers.{salvages_too_long, salvages_too_short, salvages_written}
use Rattle.salvage.proofs.salvage_with.Goals as goal

-- the book is too long
pub returns-then-book-gt-MAX_BOOK : goal.returns-then-book-gt-MAX_BOOK
returns-then-book-gt-MAX_BOOK c =
    let all = salvages_too_long max_pairs c.args.book.now c.args.room.now c.args.report.now c.if-book-gt-MAX_BOOK.true in record { value = all.0; room_after = all.1.0; report_after = all.1.1 }

-- a room is too short
pub returns-then-not-are_long_enough : goal.returns-then-not-are_long_enough
returns-then-not-are_long_enough c =
    let all = salvages_too_short max_pairs c.args.book.now c.args.room.now c.args.report.now c.if-book-gt-MAX_BOOK.false (sym c.are_long_enough.ensures ∙ c.if-not-are_long_enough.true) in record { value = all.0; room_after = all.1.0; report_after = all.1.1 }

-- both are written
pub returns : goal.returns
returns c =
    let found = c.take_lines.ensures in
    let all = salvages_written max_pairs c.args.book.now c.args.room.now c.args.report.now c.if-book-gt-MAX_BOOK.false _ _ _ _ _
    (sym c.are_long_enough.ensures ∙ c.if-not-are_long_enough.false) found.length_value found.room_after found.report_after in record { value = all.0; room_after = all.1.0; report_after = all.1.1 }
