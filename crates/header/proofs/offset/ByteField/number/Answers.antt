-- `header::offset::Byte::number` meets its contract: a number of at most 255 stays what it is.
use Rattle.std.specs.Prelude.{Some}
use mathlib.Core.Path.{ap}
use Prim.Native.Nat.{◌≤◌}
use native.Mathlib.Omega.{arith}
use mir.Syntax.{w64}
use Rattle.ints.proofs.Machine.{cast}
use Rattle.text.proofs.Numbers.{AtMost_of_fit}
use Rattle.header.proofs.offset.ByteField.number.Goals as goal

-- the number that `?` handed on
value-le : (c : goal.In_ok-n) → c.in_ok-n.n ≤ 255
value-le c = rw c.in_ok-n.was at (AtMost_of_fit 255 255 _ _ c.unsigned_number.ensures (omega arith))

pub overflow_cast-result : goal.overflow_cast-result
overflow_cast-result c = record { sfits = omega (arith, value-le c) }

pub returns : goal.returns
returns c = rw (← c.unsigned_number.ensures, c.in_ok-n.was) (ap Some (cast w64 c.in_ok-n.n {h = 255} tt (value-le c)).is)
