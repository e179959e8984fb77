-- What is said of a line that is dropped: the message on the row of any such line, and messages computed, each below the words that it shows.
-- Assumes nothing.
use mathlib.Core.Path.{◌≡◌, refl}
use mathlib.Core.List.{List, ◌++◌}
use Prim.Native.Nat.{ℕ}
use native.Mathlib.Omega.{arith}
use lib.ListN.{take}
use Rattle.text.specs.Bytes.{same}
use Rattle.text.specs.Decimal.{decimal, digits_up_to}
use Rattle.text.specs.Lines.{tab}
use Rattle.text.specs.Places.{run, first_place}
use Rattle.text.specs.Quote.{bytes}
use Rattle.stamps.proofs.Fields.{field-append, rest-append}
use Rattle.salvage.specs.Salvage.{Dropped, row_of}
use Rattle.salvage.proofs.AddUp.{Free-decimal}
use Rattle.streams.specs.Names.{name_of}
use Rattle.stampsalvage.specs.Messages.{place_words, size_words, message_of}

-- the row of a line gives its number and its length, in plain decimal
pub message_of-row_of : (name : List ℕ) (d : Dropped) → message_of name (row_of d) ≡ take 4096 name ++ (place_words (decimal d.number) ++ size_words (decimal d.size))
unfolding message_of
message_of-row_of name d =
    let free = Free-decimal tab (omega arith) d.number in
    rw (field-append (decimal d.number) (decimal d.size) free, rest-append (decimal d.number) (decimal d.size) free)

-- "BOOK:3: 17 bytes dropped"
several : message_of (bytes "BOOK") (row_of (record { number = 3; size = 17 })) ≡ bytes "BOOK:3: 17 bytes dropped\n"
unfolding message_of decimal digits_up_to first_place run same
several = refl

-- one byte is not "1 bytes", and `-` is standard input
one : message_of (name_of (bytes "standard input") (bytes "-")) (row_of (record { number = 12; size = 1 })) ≡ bytes "standard input:12: 1 byte dropped\n"
unfolding message_of decimal digits_up_to first_place run same
one = refl

-- an empty line
none : message_of (bytes "book") (row_of (record { number = 1; size = 0 })) ≡ bytes "book:1: 0 bytes dropped\n"
unfolding message_of decimal digits_up_to first_place run same
none = refl
