-- Parts of a text that the rules for ISO dates speak of: fields of two bytes, a text without one of its bytes, and signed 32-bit fields.
-- Places are counted from 0.
-- Assumes nothing.
use Rattle.std.specs.Prelude.{ℕ, ◌^◌, cond, List, [], ◌∷◌, eqb, take, drop, Option, ℤ}
use Prim.Native.Char.{code}
use Rattle.text.specs.Number.{signed_of, fit_signed}

-- a colon, by name, for contracts
abbrev pub colon : ℕ
colon = code ":"

-- the two bytes from i
abbrev pub two : ℕ → List ℕ → List ℕ
two i s = take 2 (drop i s)

-- s with every b removed
unfoldable pub without : ℕ → List ℕ → List ℕ
without b [] = []
without b (x ∷ s) = let r = without b s in cond (eqb x b) r (x ∷ r)

-- a signed 32-bit field
unfoldable pub int32 : List ℕ → Option ℤ
int32 s = fit_signed (2 ^ 31) (signed_of s)
