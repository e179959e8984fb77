-- A scan back from the end of a text for a sign with a digit after it: when the byte in front of place e is such a sign, and when it is
-- not. The same for any test of a byte is in `text` (`last-here`, `none_before`).
-- Assumes nothing.
use mathlib.Core.Path.{◌≡◌, refl, sym}
use mathlib.Core.Bool.{Bool, true, false, ◌&&◌, and-false}
use mathlib.Core.List.{List, [], ◌∷◌}
use Prim.Native.Nat.{ℕ, ◌-◌, ◌<◌}
use lib.ListN.{get_or, drop}
use Rattle.text.specs.Bytes.{is_digit, is_sign}
use Rattle.text.specs.Places.{last_where}
use Rattle.text.proofs.Runs.{None, last-here, none_before}
use Rattle.iso.specs.Cut.{is_offset}

is_offset-cons : (b : ℕ) (t : List ℕ) → is_offset (b ∷ t) ≡ (is_sign b && is_digit (get_or t 0 0))
unfolding is_offset is_digit
is_offset-cons b [] = sym (and-false (is_sign b))
is_offset-cons b (d ∷ t) = refl

-- d says whether there is a digit at e
module _ (s : List ℕ) {e : ℕ} {d : Bool} (p : 0 < e) (n : None is_offset s e) (q : is_digit (get_or (drop e s) 0 0) ≡ d) where
  pub sign_here : (is_sign (get_or s (e - 1) 0) && d) ≡ true → e - 1 ≡ last_where is_offset s
  sign_here h = last-here is_offset s e p n (rw (is_offset-cons (get_or s (e - 1) 0) (drop e s), q) h)

  pub sign_before : (is_sign (get_or s (e - 1) 0) && d) ≡ false → None is_offset s (e - 1)
  sign_before h = none_before is_offset s e p n (rw (is_offset-cons (get_or s (e - 1) 0) (drop e s), q) h)
