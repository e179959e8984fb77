-- Arguments: the name of an input in a message; options; what every program answers by itself. A path and a word are arguments as they
-- were given. Behind them, what a message is.
-- Assumes nothing.
use Rattle.std.specs.Prelude.{ℕ, Bool, cond, ◌&&◌, ◌||◌, List, ◌++◌, leb, eqb, length, get_or, flat_map}
use Rattle.std.specs.Borrow.{Bor}
use Prim.Native.Char.{code}
use Rattle.text.specs.Bytes.{same}
use Rattle.text.specs.Quote.{bytes}

-- its path, or these words for standard input if the path is `-`
abbrev pub name_of : List ℕ → List ℕ → List ℕ
name_of input path = cond (same path (bytes "-")) input path

-- the path is `-`
abbrev pub is_standard : List ℕ → Bool
is_standard path = same path (bytes "-")

-- `-` and something behind it
abbrev pub is_option : List ℕ → Bool
is_option word = leb 2 (length word) && eqb (get_or word 0 0) (code "-")

-- the options that every program has
abbrev pub is_common_option : List ℕ → Bool
is_common_option word = same word (bytes "-h") || same word (bytes "--help") || same word (bytes "--version")

-- a message: the name of its program, a colon and a blank, and its parts one after the other
abbrev pub message_of : List ℕ → List (Bor (List ℕ)) → List ℕ
message_of name parts = name ++ bytes ": " ++ flat_map (λ part. part.now) parts
