-- The measure of `turns::await_count` and `turns::await_unit`, which call each other: the length of the text that is left.
use lib.ListN.{length}
use Rattle.turns.proofs.+awaiting.Given as goal

abbrev pub decreases-await_count : goal.decreases-await_count
decreases-await_count l = length l.s.now

abbrev pub decreases-await_unit : goal.decreases-await_unit
decreases-await_unit l = length l.s.now
