-- RULES 7.3 to 7.6: the pairs of a text, and the mark `ago`. After a count the very next word is its unit, whatever that word is.
-- So each definition goes along the words together with the count that waits for its unit; None means that no count waits.
-- Assumes nothing.
use Rattle.std.specs.Prelude.{ℕ, Bool, true, false, cond, ◌&&◌, ◌||◌, List, [], ◌∷◌, None, Option, Some}
use Rattle.relative.specs.Words.{words_of, is, count_of, unit_of}
use Rattle.relative.specs.declared.pair.Unit.{Unit}
use Rattle.relative.specs.declared.pair.Unit.TheVariants.{Seconds, Months, Unknown}
use Rattle.relative.specs.declared.pair.Pair.{Pair}

-- the count that waits once the word w is read: w itself if it is a count. Other words are passed over
abbrev pub next : Option ℕ → List ℕ → Option ℕ
next (Some n) w = None
next None w = cond (is w "ago") None (count_of w)

-- w is the unit of the count that waits: the pair, before the pairs that follow
abbrev pub put : Option ℕ → List ℕ → List Pair → List Pair
put (Some n) w ps = record { count = n; unit = unit_of w } ∷ ps
put None w ps = ps

-- `ago`, where a count is awaited, sets a mark
abbrev pub marks : Option ℕ → List ℕ → Bool
marks (Some n) w = false
marks None w = is w "ago"

-- the pairs of the words; a count at the end is dropped
unfoldable pub pairs_from : Option ℕ → List (List ℕ) → List Pair
pairs_from c [] = []
pairs_from c (w ∷ ws) = put c w (pairs_from (next c w) ws)

-- whether the mark is set anywhere in the words
unfoldable pub ago_from : Option ℕ → List (List ℕ) → Bool
ago_from c [] = false
ago_from c (w ∷ ws) = marks c w || ago_from (next c w) ws

abbrev pub is_known : Unit → Bool
is_known (Seconds k) = true
is_known (Months k) = true
is_known Unknown = false

-- all units are known
unfoldable pub known : List Pair → Bool
known [] = true
known (p ∷ ps) = is_known p.unit && known ps

-- the pairs of a text, and its mark
abbrev pub pairs_of : List ℕ → List Pair
pairs_of s = pairs_from None (words_of s)

abbrev pub ago_in : List ℕ → Bool
ago_in s = ago_from None (words_of s)
