-- Worked examples as tables. A row holds what a definition gives and what the rules state for it: the answer of a reader, or the bytes
-- of a writer.
-- Assumes nothing.
use Rattle.std.specs.Prelude.{ℕ, ◌≡◌, List, [], ◌∷◌, Result}
use Rattle.time.specs.declared.Refusal.{Refusal}
use Rattle.time.specs.declared.Time.{Time}

pub data Row : Type 0 where
  reads : Result Time Refusal → Result Time Refusal → Row
  writes : List ℕ → List ℕ → Row

-- what is given is what is stated
abbrev pub Right : Row → Type 0
Right (reads given stated) = given ≡ stated
Right (writes given stated) = given ≡ stated

-- in every row of a table
abbrev pub AllRight : List Row → Type 0
AllRight [] = Unit {0}
AllRight (r ∷ rs) = Right r × AllRight rs
