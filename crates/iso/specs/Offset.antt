-- Offsets (RULES 6.8), in seconds: an hour east of UTC is 3600, an hour west -3600.
-- Assumes nothing.
use Rattle.std.specs.Prelude.{ℕ, cond, ◌&&◌, List, [], ◌∷◌, eqb, ℤ, pos, neg_ℤ, ◌+ℤ◌, ◌*ℤ◌, length, None, Option, Some}
use Prim.Native.Char.{code}
use Rattle.std.specs.Int.Signed.{le_z}
use Rattle.iso.specs.Parts.{two, without, int32}

-- up to the limit; two bytes are never below -9, so there is no lower limit
unfoldable pub up_to : ℤ → Option ℤ → Option ℤ
up_to limit (Some z) = cond (le_z z limit) (Some z) None
up_to limit None = None

-- the seconds of hours and minutes
unfoldable pub offset_seconds : Option ℤ → Option ℤ → Option ℤ
offset_seconds (Some h) (Some m) = Some (h *ℤ pos 3600 +ℤ m *ℤ pos 60)
offset_seconds (Some h) None = None
offset_seconds None m = None

-- 2 or 4 bytes in two-byte signed fields; hours go to 23, minutes to 59
unfoldable pub hours_minutes : List ℕ → Option ℤ
hours_minutes s =
    cond (eqb (length s) 2) (offset_seconds (up_to (pos 23) (int32 (two 0 s))) (Some (pos 0)))
    (cond (eqb (length s) 4) (offset_seconds (up_to (pos 23) (int32 (two 0 s))) (up_to (pos 59) (int32 (two 2 s)))) None)

-- a `-` in front of the fields negates their whole sum
unfoldable pub negated : Option ℤ → Option ℤ
negated (Some z) = Some (neg_ℤ z)
negated None = None

-- nothing or `Z` is 0; otherwise a sign and then, once all colons are removed, the fields
unfoldable pub iso_offset : List ℕ → Option ℤ
iso_offset [] = Some (pos 0)
iso_offset (b ∷ s) =
    cond (eqb b (code "Z") && eqb (length s) 0) (Some (pos 0))
    (cond (eqb b (code "+")) (hours_minutes (without (code ":") s))
    (cond (eqb b (code "-")) (negated (hours_minutes (without (code ":") s))) None))
