-- RULES 12.3: the texts of which two, joined by a space, answer as the second one does, read from the first one's answer; and
-- texts whose order does not matter when they are joined.
-- Assumes nothing.
use Rattle.std.specs.Prelude.{ℕ, ◌<◌, ◌≡◌, Bool, true, false, ◌&&◌, List, [], ◌∷◌, ◌++◌, length, Err, None, Ok, Option, Result, Some}
use Prim.Native.Char.{code}
use Rattle.text.specs.Bytes.{ascii}
use Rattle.relative.specs.declared.pair.Unit.{Unit}
use Rattle.relative.specs.declared.pair.Unit.TheVariants.{Seconds, Months, Unknown}
use Rattle.relative.specs.declared.pair.Pair.{Pair}
use Rattle.relative.specs.Words.{words_of}
use Rattle.relative.specs.Pairs.{next, pairs_of, known}
use Rattle.relative.specs.Relative.{relative_of}
use Rattle.time.specs.declared.Refusal.{Refusal}
use Rattle.time.specs.declared.Time.{Time}

-- the count that still waits for its unit when the words end, beginning with the count c
unfoldable pub waits_from : Option ℕ → List (List ℕ) → Option ℕ
waits_from c [] = c
waits_from c (w ∷ ws) = waits_from (next c w) ws

-- ASCII, at least one pair, known units only, no count without a word after it
pub record Joinable (s : List ℕ) : Type 0 where
  pub plain : ascii s ≡ true
  pub some : 0 < length (pairs_of s)
  pub units_known : known (pairs_of s) ≡ true
  pub ended : waits_from None (words_of s) ≡ None

-- a and b with a space between
abbrev pub joined_by_space : List ℕ → List ℕ → List ℕ
joined_by_space a b = a ++ code " " ∷ b

-- the text b, read with an answer as the current time
abbrev pub after : ℕ → List ℕ → Result Time Refusal → Result Time Refusal
after bound b (Ok x) = relative_of bound b (Some x)
after bound b (Err r) = Err r

-- second to week
abbrev pub is_seconds : Unit → Bool
is_seconds (Seconds k) = true
is_seconds (Months k) = false
is_seconds Unknown = false

-- all units are of seconds
unfoldable pub all_seconds : List Pair → Bool
all_seconds [] = true
all_seconds (p ∷ ps) = is_seconds p.unit && all_seconds ps
