-- How what follows the date is split into time and offset (RULES 6.6): the time is before the place `cut`, and the bytes from there
-- on, trimmed, are the offset. The text s is trimmed already, and places are counted in it from 0.
-- Assumes nothing.
use Rattle.std.specs.Prelude.{ℕ, ◌-◌, Bool, false, cond, ◌&&◌, List, [], ◌∷◌, eqb, ltb, length, get_or, take, drop}
use Prim.Native.Char.{code}
use Rattle.text.specs.Bytes.{is_digit, is_sign}
use Rattle.text.specs.Places.{before, last_place, last_where}
use Rattle.text.specs.Trim.{trim}

-- s ends with a `Z`
unfoldable pub ends_with_z : List ℕ → Bool
ends_with_z s = eqb (get_or s (length s - 1) 0) (code "Z")

-- s starts with a sign
unfoldable pub is_signed : List ℕ → Bool
is_signed [] = false
is_signed (b ∷ s) = is_sign b

-- s starts with a sign that has a digit directly after it
unfoldable pub is_offset : List ℕ → Bool
is_offset [] = false
is_offset (b ∷ []) = false
is_offset (b ∷ d ∷ s) = is_sign b && is_digit d

-- the last space is beyond place 5, and what follows it, trimmed, starts with a sign; trimming drops the space itself too
unfoldable pub splits_at_space : List ℕ → Bool
splits_at_space s = ltb 5 (last_place (code " ") s) && is_signed (trim (drop (last_place (code " ") s) s))

-- the rightmost sign that has a digit directly after it, if it is at place 2 or later; otherwise the end
unfoldable pub sign_place : List ℕ → ℕ
sign_place s = cond (ltb (last_where is_offset s) 2) (length s) (last_where is_offset s)

-- a final `Z` is the offset; otherwise it is what follows that space; otherwise that sign opens it; otherwise there is none
unfoldable pub cut : List ℕ → ℕ
cut s = cond (ends_with_z s) (length s - 1) (cond (splits_at_space s) (last_place (code " ") s) (sign_place s))

-- the time: what is before the first dot, then trimmed
unfoldable pub time_text : List ℕ → List ℕ
time_text s = trim (before (code ".") (take (cut s) s))

unfoldable pub offset_text : List ℕ → List ℕ
offset_text s = trim (drop (cut s) s)
