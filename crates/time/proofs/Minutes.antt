-- Offsets cut toward zero to whole minutes. In order: each part by itself; the quotient by 60, times 60; the size that is left; the
-- offset itself where it has whole minutes.
-- Assumes nothing.
use mathlib.Core.Path.{◌≡◌}
use Prim.Native.Nat.{suc, ◌*◌, ◌/◌, ◌%◌}
use native.Mathlib.Omega.{arith}
use lib.IntN.{ℤ, pos, negsuc, nat_abs, ◌*ℤ◌}
use lib.Signed.{quot_z}
use Rattle.ints.proofs.Parts.{up, dn, parts-eq, up_neg, dn-neg, up-mul, dn-mul, up_quot, dn_quot, nat_abs-parts, one_up}
use Rattle.time.specs.Header.{cut_to_minutes}

-- each part is cut by itself
pub up_cut : (o : ℤ) → up (cut_to_minutes o) ≡ up o / 60 * 60
unfolding cut_to_minutes
up_cut (pos n) = omega arith
up_cut (negsuc n) = omega (arith, up_neg (pos (suc n / 60 * 60)))

pub dn_cut : (o : ℤ) → dn (cut_to_minutes o) ≡ dn o / 60 * 60
unfolding cut_to_minutes
dn_cut (pos n) = omega arith
dn_cut (negsuc n) = omega (arith, dn-neg (pos (suc n / 60 * 60)))

-- so it is the quotient by 60, times 60
pub quot_is_cut : (o : ℤ) → quot_z o (pos 60) *ℤ pos 60 ≡ cut_to_minutes o
quot_is_cut o =
    let q = quot_z o (pos 60) in
    parts-eq _ _ (omega (arith, up_cut o, dn_cut o, up-mul q 60, dn-mul q 60, up_quot o 60, dn_quot o 60))

-- the minutes of its size are left, and nothing else
pub nat_abs-cut : (o : ℤ) → nat_abs (cut_to_minutes o) ≡ nat_abs o / 60 * 60
nat_abs-cut o = omega (arith, nat_abs-parts (cut_to_minutes o), nat_abs-parts o, one_up o, up_cut o, dn_cut o)

pub cut_of_whole : (o : ℤ) → nat_abs o % 60 ≡ 0 → cut_to_minutes o ≡ o
cut_of_whole o h = parts-eq _ _ (omega (arith, nat_abs-parts o, one_up o, up_cut o, dn_cut o))
