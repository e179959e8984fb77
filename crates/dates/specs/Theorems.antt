-- What the theorems about "any" speak of (docs/PROMISES.md): when it answers 11, when 5, and where its mark comes from. No contract cites these.
-- Assumes nothing.
use Rattle.std.specs.Prelude.{ℕ, ◌≡◌, false, List, ◌⊎◌, get_or, drop, Ok, Option}
use Prim.Native.Char.{code}
use Rattle.time.specs.declared.Time.{Time}
use Rattle.header.specs.Raw.{Limits, raw_of}
use Rattle.header.specs.Theorems.{RawTooLarge}
use Rattle.iso.specs.Iso.{iso_of}
use Rattle.relative.specs.Relative.{relative_of}
use Rattle.relative.specs.Bounds.{BeyondBound}
use Rattle.dates.specs.Any.{is_settled, or_else, plain_of}

-- no step before the last one ends the search, and the last one, raw, answers 11 (RULES 5.9 and 8.2)
pub record AnyTooLarge (bound : ℕ) (l : Limits) (s : List ℕ) (now : Option Time) : Type 0 where
  pub reached : is_settled (or_else (plain_of l s) (or_else (iso_of s) (relative_of bound s now))) ≡ false
  pub last : RawTooLarge s

-- no step before that of relative dates ends the search, and the text is beyond the bound on pairs (RULES 2.1 and 8.2)
pub record AnyBeyondBound (bound : ℕ) (l : Limits) (s : List ℕ) : Type 0 where
  pub reached : is_settled (or_else (plain_of l s) (iso_of s)) ≡ false
  pub beyond : BeyondBound bound s

-- the raw reader reads s, or what follows the `@` that s begins with, as t
abbrev pub ReadAsRaw : Limits → List ℕ → Time → Type 0
ReadAsRaw l s t = (raw_of l s ≡ Ok t) ⊎ ((get_or s 0 0 ≡ code "@") × (raw_of l (drop 1 s) ≡ Ok t))
