-- The cut into time and offset. In order: the place of the sign; the cut, by what was found; what follows the last space.
-- Assumes nothing.
use mathlib.Core.Path.{◌≡◌, refl}
use mathlib.Core.Bool.{true, false}
use mathlib.Core.List.{List, [], ◌∷◌}
use Prim.Native.Nat.{ℕ, ◌-◌, ◌≤◌, ◌<◌}
use native.Mathlib.Omega.{arith}
use borrow.Author.Tests.{lt-ltb, le-ltb}
use lib.Dec.{eqb}
use lib.ListN.{length, get_or, drop}
use Rattle.text.specs.Bytes.{is_sign}
use Rattle.text.specs.Places.{last_where, last_place}
use Rattle.text.specs.Trim.{trim}
use Rattle.iso.specs.Cut.{ends_with_z, is_signed, is_offset, splits_at_space, sign_place, cut}

-- ---- the place of the sign
pub sign_place_of_lt : (s : List ℕ) (i : ℕ) → i ≡ last_where is_offset s → i < 2 → length s ≡ sign_place s
unfolding sign_place
sign_place_of_lt s i e h = let k : last_where is_offset s < 2 = omega arith in rw (lt-ltb (last_where is_offset s) 2 k)

pub sign_place_of_le : (s : List ℕ) (i : ℕ) → i ≡ last_where is_offset s → 2 ≤ i → i ≡ sign_place s
unfolding sign_place
sign_place_of_le s i e h = let k : 2 ≤ last_where is_offset s = omega arith in rw (le-ltb (last_where is_offset s) 2 k, e)

-- ---- the cut
pub cut-nil : (s : List ℕ) → length s ≡ 0 → 0 ≡ cut s
unfolding cut ends_with_z splits_at_space sign_place last_place last_where
cut-nil [] h = refl
cut-nil (b ∷ s) h = absurd (omega arith)

pub cut_zed : (s : List ℕ) → eqb (get_or s (length s - 1) 0) 90 ≡ true → length s - 1 ≡ cut s
unfolding cut ends_with_z
cut_zed s e = rw e

-- the last space at r
module _ (s : List ℕ) (e : eqb (get_or s (length s - 1) 0) 90 ≡ false) where
  pub cut_space : (r : ℕ) → r ≡ last_place 32 s → splits_at_space s ≡ true → r ≡ cut s
  unfolding cut ends_with_z
  cut_space r q h = rw (e, h) q

  pub cut_sign : splits_at_space s ≡ false → sign_place s ≡ cut s
  unfolding cut ends_with_z
  cut_sign h = rw (e, h)

-- ---- what follows the last space, at r
module _ (s : List ℕ) (r : ℕ) (q : r ≡ last_place 32 s) where
  pub splits_at_space_of_le : r ≤ 5 → splits_at_space s ≡ false
  unfolding splits_at_space
  splits_at_space_of_le h = rw (← q, le-ltb 5 r h)

  pub splits_at_space_of_lt : 5 < r → splits_at_space s ≡ is_signed (trim (drop r s))
  unfolding splits_at_space
  splits_at_space_of_lt h = rw (← q, lt-ltb 5 r h)

pub is_signed_of_lt : (s : List ℕ) → 0 < length s → is_signed s ≡ is_sign (get_or s 0 0)
unfolding is_signed
is_signed_of_lt [] h = absurd (omega arith)
is_signed_of_lt (b ∷ s) h = refl

pub is_signed_of_length : (s : List ℕ) → length s ≡ 0 → is_signed s ≡ false
unfolding is_signed
is_signed_of_length [] h = refl
is_signed_of_length (b ∷ s) h = absurd (omega arith)
