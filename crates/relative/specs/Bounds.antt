-- RULES 12.10: the answers by two bounds on the number of pairs, and the texts that are beyond a bound. No contract cites these.
-- Assumes nothing.
use Rattle.std.specs.Prelude.{ℕ, ◌<◌, ◌≡◌, true, ◌||◌, List, ◌⊎◌, length, Err, Result}
use Rattle.text.specs.Bytes.{ascii}
use Rattle.time.specs.declared.Refusal.TheVariants.{Pairs}
use Rattle.relative.specs.Pairs.{pairs_of, ago_in, known}
use Rattle.time.specs.declared.Refusal.{Refusal}
use Rattle.time.specs.declared.Time.{Time}

-- the answer by a bound, beside the one by a larger bound: they are alike, unless the first is 5
abbrev pub AlikeBut5 : Result Time Refusal → Result Time Refusal → Type 0
AlikeBut5 smaller larger = (larger ≡ smaller) ⊎ (smaller ≡ Err Pairs)

-- an ASCII text with more pairs than the bound, whose units are known, or which has the mark
pub record BeyondBound (bound : ℕ) (s : List ℕ) : Type 0 where
  pub plain : ascii s ≡ true
  pub more : bound < length (pairs_of s)
  pub allowed : (known (pairs_of s) || ago_in s) ≡ true
