-- `stamps::stamp::printed_at` meets its contract.
use Rattle.stamps.proofs.Printed.{OpensPrinted_of_width}
use Rattle.stamps.proofs.stamp.printed_at.Goals as goal

pub returns : goal.returns
returns c =
    OpensPrinted_of_width _ _ _ _ _ c.leading_integer-read.ensures (rw c.ok.ensures.value at c.if_width.ensures)
