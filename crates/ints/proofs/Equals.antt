-- The test whether two integers are equal. In order: its result when they are, and when they are not; the machine's test, which
-- compares bits.
-- Assumes nothing.
use mathlib.Core.Path.{◌≡◌, refl, sym, ap, ◌∙◌}
use mathlib.Core.Bool.{Bool, true, false, false≢true}
use borrow.Author.Tests.{eq-eqb, eqb-true}
use lib.Dec.{eqb}
use lib.IntN.{ℤ, pos, negsuc}
use mir.Syntax.{Width}
use mir.Val.{SFits, to_z, of_z}
use mir.ValLaws.{to_z-of_z}
use Rattle.ints.specs.Equal.{eq_z}

pub eq_z-refl : (z : ℤ) → eq_z z z ≡ true
eq_z-refl (pos n) = eq-eqb n n refl
eq_z-refl (negsuc n) = eq-eqb n n refl

pub eq_z-true : (a b : ℤ) → eq_z a b ≡ true → a ≡ b
eq_z-true (pos a) (pos b) e = ap pos (eqb-true a b e)
eq_z-true (pos a) (negsuc b) e = absurd (false≢true e)
eq_z-true (negsuc a) (pos b) e = absurd (false≢true e)
eq_z-true (negsuc a) (negsuc b) e = ap negsuc (eqb-true a b e)

-- the machine compares bits
pub eqb-of_z : (w : Width) (a b : ℤ) → SFits w a → SFits w b → eqb (of_z w a) (of_z w b) ≡ eq_z a b
eqb-of_z w a b f g = go (eq_z a b) (eqb (of_z w a) (of_z w b)) refl refl
  where
    go : (t u : Bool) → eq_z a b ≡ t → eqb (of_z w a) (of_z w b) ≡ u → u ≡ t
    go true u e d = sym d ∙ ap (λ (z : ℤ). eqb (of_z w z) (of_z w b)) (eq_z-true a b e) ∙ eq-eqb (of_z w b) (of_z w b) refl
    go false true e d =
        let same : a ≡ b = sym (to_z-of_z w a f) ∙ ap (to_z w) (eqb-true _ _ d) ∙ to_z-of_z w b g in
        absurd (false≢true (sym e ∙ ap (λ (z : ℤ). eq_z z b) same ∙ eq_z-refl b))
    go false false e d = refl
