-- `time::write::sign_byte` meets its contract.
use lib.IntN.{pos}
use mir.Syntax.{w32}
use Rattle.ints.proofs.Machine.{lit, param, lt_yes, lt_no}
use Rattle.time.proofs.Headers.{sign_byte_of_lt, sign_byte_of_le}
use Rattle.time.proofs.write.sign_byte.Goals as goal

pub returns-then-offset-lt0 : goal.returns-then-offset-lt0
returns-then-offset-lt0 c = sign_byte_of_lt c.args.offset (lt_yes (param w32 c.ranges.offset) (lit (pos 0)) c.if-offset-lt0.true)

pub returns-else-offset-lt0 : goal.returns-else-offset-lt0
returns-else-offset-lt0 c = sign_byte_of_le c.args.offset (lt_no (param w32 c.ranges.offset) (lit (pos 0)) c.if-offset-lt0.false)
