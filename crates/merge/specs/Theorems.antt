-- What the theorems about merging speak of (docs/PROMISES.md). No public contract cites these.
-- Assumes nothing.
use Rattle.std.specs.Prelude.{ℕ, ◌≡◌, ◌≤◌, Bool, true, false, cond, ◌&&◌, ◌⊎◌, List, [], ◌∷◌, length, ℤ, None, Option, Some}
use Rattle.std.specs.Int.Signed.{le_z}
use Rattle.text.specs.Lines.{ended_lines, left}
use Rattle.stamps.specs.Lines.{line_of}
use Rattle.stamps.specs.Theorems.{is_hull_line}
use Rattle.merge.specs.Lists.{max_list}
use Rattle.merge.specs.Merge.{seconds_in, is_in_order}

-- ks is a shuffle of ls and ms that keeps both orders: each line of it is the next one of ls or the next one of ms, and none is left over
unfoldable pub Shuffle : List (List ℕ) → List (List ℕ) → List (List ℕ) → Type 0
Shuffle ls ms [] = (ls ≡ []) × (ms ≡ [])
Shuffle ls ms (k ∷ ks) = ((rest : List (List ℕ)) × (ls ≡ k ∷ rest) × Shuffle rest ms ks) ⊎ ((rest : List (List ℕ)) × (ms ≡ k ∷ rest) × Shuffle ls rest ks)

-- whether all of these lines are `hull` lines
unfoldable pub are_hulls : ℕ → List (List ℕ) → Bool
are_hulls bound [] = true
are_hulls bound (l ∷ ls) = is_hull_line (line_of bound l) && are_hulls bound ls

-- the seconds of `hull` lines never fall, below a line with these
unfoldable pub is_sorted : ℕ → Option ℤ → List (List ℕ) → Bool
is_sorted bound above [] = true
is_sorted bound above (l ∷ ls) = is_in_order above (seconds_in (line_of bound l)) && is_sorted bound (seconds_in (line_of bound l)) ls

-- a good list: it is not too long, ends with a newline or is empty, and has `hull` lines only, whose seconds never fall
pub record IsList (bound : ℕ) (list : List ℕ) : Type 0 where
  pub short : length list ≤ max_list
  pub whole : left list ≡ []
  pub hulls : are_hulls bound (ended_lines list) ≡ true
  pub sorted : is_sorted bound None (ended_lines list) ≡ true

-- whether a line has the seconds z, and the lines that have them, in their order
abbrev pub is_at : ℤ → Option ℤ → Bool
is_at z (Some w) = le_z z w && le_z w z
is_at z None = false

unfoldable pub lines_at : ℕ → ℤ → List (List ℕ) → List (List ℕ)
lines_at bound z [] = []
lines_at bound z (l ∷ ls) = let below = lines_at bound z ls in cond (is_at z (seconds_in (line_of bound l))) (l ∷ below) below
