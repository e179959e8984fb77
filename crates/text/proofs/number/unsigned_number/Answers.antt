-- `text::number::unsigned_number` meets its contract: by its first byte, if there is one. Rattle finds the two cases of that byte
-- itself, by `unsigned_of_plus` and `unsigned_of_other` of proofs/Numbers.antt; here is the empty text.
use Rattle.std.proofs.Common.{arith}
use lib.ListN.{drop_of_length-le}
use Rattle.text.specs.Number.{unsigned_of, fit}
use Rattle.text.proofs.number.unsigned_number.Goals as goal

pub returns-in-empty : goal.returns-in-empty
unfolding unsigned_of fit
returns-in-empty c = rw (drop_of_length-le c.args.s.now {i = 0} (omega arith))
