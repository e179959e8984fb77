-- `stamps::stamp::two_digits` meets its contract: two digits are at most 99.
use native.Mathlib.Omega.{arith}
use Rattle.text.proofs.Numbers.{digit_range}
use Rattle.stamps.proofs.stamp.two_digits.Goals as goal

pub overflow_sub-tens : goal.overflow_sub-tens
overflow_sub-tens c = omega (arith, digit_range c.args.tens c.requires.0)

pub overflow_mul-tens : goal.overflow_mul-tens
overflow_mul-tens c = omega (arith, digit_range c.args.tens c.requires.0)

pub overflow_sub-ones : goal.overflow_sub-ones
overflow_sub-ones c = omega (arith, digit_range c.args.ones c.requires.1)

pub overflow_add-tens : goal.overflow_add-tens
overflow_add-tens c = omega (arith, digit_range c.args.tens c.requires.0, digit_range c.args.ones c.requires.1)

pub returns : goal.returns
returns c = (c.from.ensures, omega (arith, c.from.ensures, digit_range c.args.tens c.requires.0, digit_range c.args.ones c.requires.1))
