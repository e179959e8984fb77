-- What is said of a list, computed: each example is below the words that it shows.
-- Assumes nothing.
use mathlib.Core.Path.{◌≡◌, refl}
use Rattle.text.specs.Bytes.{same}
use Rattle.text.specs.Decimal.{decimal, digits_up_to}
use Rattle.text.specs.Quote.{bytes}
use Rattle.merge.specs.declared.lists.Machine.TheVariants.{First, Second}
use Rattle.merge.specs.declared.lists.Fault.TheVariants.{TooLong, BadLine, StepBack}
use Rattle.stampmerge.specs.Messages.{message_of}

-- the second list's fault, by the second list's name
step_back : message_of Second (StepBack 12) (bytes "north") (bytes "south") ≡ bytes "south:12: earlier than the line above\n"
unfolding message_of same decimal digits_up_to
step_back = refl

-- `-` is standard input
bad_line : message_of First (BadLine 7) (bytes "-") (bytes "south") ≡ bytes "standard input:7: bad line\n"
unfolding message_of same decimal digits_up_to
bad_line = refl

-- no line is named where the list is too long
too_long : message_of First TooLong (bytes "north") (bytes "south") ≡ bytes "north: too long: more than 32,768 bytes\n"
unfolding message_of same decimal digits_up_to
too_long = refl
