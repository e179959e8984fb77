-- A message that is written from its end to its front: what the room holds from a place on, after each write in front of that place. In
-- order: what is wrong at a line; the message.
-- Assumes nothing.
use mathlib.Core.Path.{◌≡◌}
use mathlib.Core.List.{List, [], ◌∷◌, ◌++◌, append_assoc, append-nil}
use Prim.Native.Char.{code}
use Prim.Native.Nat.{ℕ}
use lib.ListN.{take}
use Rattle.text.specs.Decimal.{decimal}
use Rattle.text.specs.Quote.{bytes}
use Rattle.merge.specs.declared.lists.Machine.{Machine}
use Rattle.merge.specs.declared.lists.Fault.{Fault}
use Rattle.streams.specs.Names.{name_of}
use Rattle.stampmerge.specs.Messages.{path_of, at_line, fault_words, message_of}

-- what is wrong at line n, then the number of the line, then a colon
pub line_put : (n : ℕ) (what u v w x : List ℕ) → v ≡ what ++ u → w ≡ decimal n ++ v → x ≡ code ":" ∷ w → x ≡ at_line n what ++ u
line_put n what u v w x e f g = rw (g, f, e) (simp append_assoc)

-- what is wrong with the list, up to the end of the room, then its name
pub message_put : (machine : Machine) (fault : Fault) (first second name u v w : List ℕ) → name ≡ take 4096 (name_of (bytes "standard input") (path_of machine first second))
    → u ≡ [] → v ≡ fault_words fault ++ u → w ≡ name ++ v → w ≡ message_of machine fault first second
unfolding message_of
message_put machine fault first second name u v w k n e f = rw (f, k, e, n) (simp append-nil)
