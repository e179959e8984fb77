-- `header::walk::first_word` meets its contract: an empty text, and one whose first byte is above a space, begin with no white
-- space.
use mathlib.Core.Path.{sym}
use native.Mathlib.Omega.{arith}
use Rattle.text.specs.Bytes.{is_space}
use Rattle.text.proofs.Runs.{past_of-false, past_of-length-le}
use Rattle.text.proofs.Plain.{is_space_of_lt}
use Rattle.header.proofs.walk.first_word.Goals as goal

pub returns-in-empty : goal.returns-in-empty
returns-in-empty c = sym (past_of-length-le is_space _ 0 (omega (arith, c.in-empty.len_below)))

pub returns-in-len1-up : goal.returns-in-len1-up
returns-in-len1-up c =
    let s = c.args.s.now in
    sym (past_of-false is_space s 0 (omega (arith, c.in-len1-up.len_at_least)) (is_space_of_lt _ c.if-b-gt32.true))
