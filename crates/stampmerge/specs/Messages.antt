-- What `stampmerge` says of a list that is at fault (RULES 15.8), as bytes. In order: the path of the list; what is wrong with it; the
-- message. A path is an argument as it was given. Lines are counted from 1.
-- Assumes nothing.
use Rattle.std.specs.Prelude.{ℕ, List, ◌∷◌, ◌++◌, take}
use Prim.Native.Char.{code}
use Rattle.text.specs.Decimal.{decimal}
use Rattle.text.specs.Quote.{bytes}
use Rattle.streams.specs.Names.{name_of}
use Rattle.merge.specs.declared.lists.Machine.{Machine}
use Rattle.merge.specs.declared.lists.Machine.TheVariants.{First, Second}
use Rattle.merge.specs.declared.lists.Fault.{Fault}
use Rattle.merge.specs.declared.lists.Fault.TheVariants.{TooLong, BadLine, StepBack}

-- the path of a machine's list
abbrev pub path_of : Machine → List ℕ → List ℕ → List ℕ
path_of First first second = first
path_of Second first second = second

-- what is wrong at a line: the number of the line, with a colon in front, and these words
abbrev pub at_line : ℕ → List ℕ → List ℕ
at_line n what = code ":" ∷ decimal n ++ what

-- what is wrong with a list
abbrev pub fault_words : Fault → List ℕ
fault_words TooLong = bytes ": too long: more than 32,768 bytes\n"
fault_words (BadLine n) = at_line n (bytes ": bad line\n")
fault_words (StepBack n) = at_line n (bytes ": earlier than the line above\n")

-- the message. A name is cut at 4,096 bytes, which is the most that an argument has
unfoldable pub message_of : Machine → Fault → List ℕ → List ℕ → List ℕ
message_of machine fault first second = take 4096 (name_of (bytes "standard input") (path_of machine first second)) ++ fault_words fault
