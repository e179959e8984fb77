-- `stampmerge::messages::put_fault` meets its contract: no words are longer than the 30 bytes of the longest, and with a colon and a number
-- of 20 digits in front they have 51.
use native.Mathlib.Omega.{arith}
use Rattle.stampmerge.proofs.messages.put_fault.Goals as goal

-- too long
pub returns-in-TooLong : goal.returns-in-TooLong
returns-in-TooLong c = let e = c.put_text.ensures in record {
  upper_bound = (omega (arith, e.text_value), omega (arith, e.text_value));
  room_after = rw c.in-TooLong.is e.room_after;
}

-- a bad line
pub returns-in-BadLine : goal.returns-in-BadLine
returns-in-BadLine c = let e = c.put_line.ensures in record {
  upper_bound = (omega (arith, e.upper_bound), omega (arith, e.upper_bound));
  room_after = rw c.in-BadLine.is e.room_after;
}

-- a line that is earlier than the line above it
pub returns-in-StepBack : goal.returns-in-StepBack
returns-in-StepBack c = let e = c.put_line-in-StepBack.ensures in record {
  upper_bound = (omega (arith, e.upper_bound), omega (arith, e.upper_bound));
  room_after = rw c.in-StepBack.is e.room_after;
}
