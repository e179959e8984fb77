-- The end of a line (RULES 13.1). In order: whether a line ends at a place; the line in front of the first newline.
-- Assumes nothing.
use mathlib.Core.Path.{◌≡◌, refl, ap}
use mathlib.Core.Bool.{true}
use mathlib.Core.List.{List, [], ◌∷◌, ◌++◌}
use Prim.Native.Nat.{ℕ, suc, ◌≤◌, ◌<◌}
use native.Mathlib.Omega.{arith}
use borrow.Author.Tests.{ne_eqb}
use lib.Dec.{eqb}
use lib.ListN.{length, get_or, drop, drop_of_length-le}
use lib.Seq.{take-append_seam}
use Rattle.text.specs.Places.{run, first_place, before}
use Rattle.text.specs.Lines.{newline}
use Rattle.text.proofs.Lists.{by_test, drop-cons-add-one}
use Rattle.text.proofs.FirstPlaces.{Free}
use Rattle.text.proofs.Decimals.{Between}
use Rattle.stamps.specs.Held.{ends_here}

-- ---- whether a line ends at a place
pub ends_here_of_le : (s : List ℕ) (i : ℕ) → length s ≤ i → ends_here (drop i s) ≡ true
unfolding ends_here
ends_here_of_le s i h = rw (drop_of_length-le s h)

pub ends_here_of_lt : (s : List ℕ) (i : ℕ) → i < length s → ends_here (drop i s) ≡ eqb (get_or s i 0) newline
unfolding ends_here
ends_here_of_lt s i h = rw (drop-cons-add-one s i h)

-- ---- the line in front of the first newline
-- a line ends behind it
pub ends_here-first_place : (s : List ℕ) → ends_here (drop (first_place newline s) s) ≡ true
unfolding ends_here first_place run
ends_here-first_place [] = refl
ends_here-first_place (b ∷ s) = by_test (eqb b newline) (λ e. rw (e, e)) (λ e. rw e (ends_here-first_place s))

-- a text without newline, in front of the end of a line, is that line
pub first_place_of_ends_here : (w t : List ℕ) → Free newline w → ends_here t ≡ true → first_place newline (w ++ t) ≡ length w
unfolding ends_here first_place run
first_place_of_ends_here [] [] f e = refl
first_place_of_ends_here [] (b ∷ t) f e = rw e
first_place_of_ends_here (b ∷ w) t f e = rw f.0 (ap suc (first_place_of_ends_here w t f.1 e))

pub before_of_ends_here : (w t : List ℕ) → Free newline w → ends_here t ≡ true → before newline (w ++ t) ≡ w
before_of_ends_here w t f e = rw (first_place_of_ends_here w t f e) (take-append_seam w t)

-- a text whose bytes are all above b does not hold b
pub Free_of_between : (b lo hi : ℕ) → b < lo → (s : List ℕ) → Between lo hi s → Free b s
Free_of_between b lo hi h [] k = tt
Free_of_between b lo hi h (x ∷ s) k = (ne_eqb x b (λ e. omega (arith, k.0)), Free_of_between b lo hi h s k.2)
