-- `salvage::are_long_enough` meets its contract.
use lib.Dec.{leb}
use mathlib.Core.Bool.{◌&&◌}
use Rattle.relative.specs.Relative.{max_pairs}
use Rattle.salvage.proofs.Answers.{always_fit}
use Rattle.salvage.proofs.are_long_enough.Goals as goal

-- they are for any book as long as this one
pub returns-then-book-room : goal.returns-then-book-room
returns-then-book-room c = always_fit max_pairs c.args.book.now c.args.room c.args.report c.requires.book_len_bound c.if-book-room.true

-- measured
pub returns : goal.returns
returns c =
    let found = c.take_lines-found.ensures.length_value in
    (λ i. leb (found.0 i) c.args.room && leb (found.1 i) c.args.report)
