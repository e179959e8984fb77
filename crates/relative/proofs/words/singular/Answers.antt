-- `relative::words::singular` meets its contract.
use native.Mathlib.Omega.{arith}
use borrow.Author.Tests.{eq-eqb, ne_eqb}
use lib.ListN.{drop_of_length-le}
use Rattle.text.specs.Bytes.{lower_of}
use Rattle.relative.specs.Words.{singular}
use Rattle.relative.proofs.words.singular.Goals as goal

-- the empty word has no last byte
pub returns-in_default : goal.returns-in_default
unfolding singular lower_of
returns-in_default c = rw (drop_of_length-le c.args.word.now {i = 0} (omega (arith, c.in_default.len_below)))

pub returns-then-lower-eq115 : goal.returns-then-lower-eq115
unfolding singular
returns-then-lower-eq115 c = rw (← c.lower.ensures, eq-eqb _ _ c.if-lower-eq115.true)

pub returns-else-lower-eq115 : goal.returns-else-lower-eq115
unfolding singular
returns-else-lower-eq115 c = rw (← c.lower.ensures, ne_eqb _ _ c.if-lower-eq115.false)
