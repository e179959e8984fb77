-- Trimming: a text without the white space at its ends.
-- Assumes nothing.
use Rattle.std.specs.Prelude.{ℕ, cond, List, [], ◌∷◌, reverse}
use Rattle.text.specs.Bytes.{is_space}

unfoldable pub trim_start : List ℕ → List ℕ
trim_start [] = []
trim_start (b ∷ s) = cond (is_space b) (trim_start s) (b ∷ s)

unfoldable pub trim_end : List ℕ → List ℕ
trim_end s = reverse (trim_start (reverse s))

unfoldable pub trim : List ℕ → List ℕ
trim s = trim_end (trim_start s)
