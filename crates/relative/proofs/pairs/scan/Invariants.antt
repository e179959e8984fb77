-- What `relative::pairs::scan` keeps: what was counted, marked and subtracted so far, together with the words that the reader has
-- left, makes up the whole text (`Scanned`); and each pair took more than one byte. The measure is the length of the text that is
-- left.
use Prim.Native.Nat.{◌≤◌, ◌-◌}
use lib.ListN.{length}
use Rattle.time.specs.Range.{MovedInRange}
use Rattle.relative.specs.Relative.{max_pairs}
use Rattle.relative.specs.Held.{answer_of}
use Rattle.relative.proofs.Scanning.{left, Scanned}
use Rattle.relative.proofs.pairs.scan.Given as goal

abbrev pub invariant-loop-span : goal.invariant-loop-span
invariant-loop-span l =
    (l.number ≤ l.reader.at) × MovedInRange l.landing × Scanned max_pairs l.s (answer_of l.fn.start) l.number l.known l.ago (answer_of l.landing) (left l.s l.reader.at)

abbrev pub decreases-loop-span : goal.decreases-loop-span
decreases-loop-span l = length l.s - l.reader.at
