-- Signed plain decimal. In order: what the sign decides; a text after it; how many bytes it takes; which bytes they are; reading
-- it back, and which numbers a width holds; the digits written in front of a place, and the minus in front of them.
-- Assumes nothing.
use Rattle.std.specs.Prelude.{Ok, Some}
use mathlib.Core.Path.{◌≡◌, refl, sym, ap, ◌∙◌}
use mathlib.Core.Bool.{true, ◌&&◌}
use mathlib.Core.List.{List, ◌∷◌, ◌++◌, append_assoc}
use Prim.Native.Nat.{ℕ, zero, suc, ◌+◌, ◌-◌, ◌^◌, ◌≤◌, ◌<◌}
use native.Mathlib.Omega.{arith}
use lib.IntN.{ℤ, pos, negsuc, neg_ℤ, pred_ℤ, nat_abs}
use lib.ListN.{length, take, drop, length-append}
use lib.Signed.{le_z, lt_z, ◌≤ℤ◌, ◌<ℤ◌}
use Rattle.ints.specs.Range.{In}
use Rattle.ints.proofs.Parts.{le_parts, lt-parts, parts-le, parts-lt}
use Rattle.ints.proofs.Machine.{lit, le_yes, lt_yes, lt-pred, le_z-true, lt_z-true}
use Rattle.text.specs.Number.{signed_of, fitted_signed}
use Rattle.text.specs.Decimal.{decimal, decimal_before, signed, signed_before}
use Rattle.text.proofs.Lists.{both}
use Rattle.text.proofs.Decimals.{Between, Between-append, length-decimal-pos, length-decimal-le, read_from-decimal, decimal_between}
use Rattle.text.proofs.Putting.{put_put}
use Rattle.text.proofs.Texts.{signed_of_of_digits, signed_of_of_minus}

-- ---- what the sign decides
signed_before_of_lt : (z : ℤ) (t : List ℕ) → z <ℤ pos 0 → signed_before z t ≡ 45 ∷ decimal_before (nat_abs z) t
unfolding signed_before signed decimal_before
signed_before_of_lt (pos n) t h = absurd (omega (arith, lt-parts h))
signed_before_of_lt (negsuc n) t h = refl

signed_before_of_le : (z : ℤ) (t : List ℕ) → pos 0 ≤ℤ z → signed_before z t ≡ decimal_before (nat_abs z) t
unfolding signed_before signed decimal_before
signed_before_of_le (pos n) t h = refl
signed_before_of_le (negsuc n) t h = absurd (omega (arith, le_parts h))

-- ---- a text after it
pub signed_before-app : (z : ℤ) (s t : List ℕ) → signed_before z (s ++ t) ≡ signed_before z s ++ t
unfolding signed_before
signed_before-app z s t = sym (append_assoc (signed z) s t)

pub signed_before-append : (z : ℤ) (t : List ℕ) → signed_before z t ≡ signed z ++ t
unfolding signed_before
signed_before-append z t = refl

pub length-signed_before : (z : ℤ) (t : List ℕ) → length (signed_before z t) ≡ length (signed z) + length t
length-signed_before z t = ap length (signed_before-append z t) ∙ length-append (signed z) t

-- ---- how many bytes it takes
pub length-signed_of_lt : (z : ℤ) → z <ℤ pos 0 → length (signed z) ≡ length (decimal (nat_abs z)) + 1
unfolding signed
length-signed_of_lt (pos n) h = absurd (omega (arith, lt-parts h))
length-signed_of_lt (negsuc n) h = omega arith

pub length-signed_of_le : (z : ℤ) → pos 0 ≤ℤ z → length (signed z) ≡ length (decimal (nat_abs z))
unfolding signed
length-signed_of_le (pos n) h = refl
length-signed_of_le (negsuc n) h = absurd (omega (arith, le_parts h))

pub length-decimal-le-signed : (z : ℤ) → length (decimal (nat_abs z)) ≤ length (signed z)
length-decimal-le-signed (pos n) = omega (arith, length-signed_of_le (pos n) (parts-le _ _ (omega arith)))
length-decimal-le-signed (negsuc n) = omega (arith, length-signed_of_lt (negsuc n) (parts-lt _ _ (omega arith)))

pub length-signed-pos : (z : ℤ) → 0 < length (signed z)
length-signed-pos z = omega (arith, length-decimal-le-signed z, length-decimal-pos (nat_abs z))

-- at most 20 bytes, for a number of 64 bits
pub length_signed_le : (z : ℤ) → nat_abs z ≤ 2 ^ 63 → length (signed z) ≤ 20
length_signed_le (pos n) h = omega (arith, length-signed_of_le (pos n) (parts-le _ _ (omega arith)), length-decimal-le 18 n (omega arith))
length_signed_le (negsuc n) h = omega (arith, length-signed_of_lt (negsuc n) (parts-lt _ _ (omega arith)), length-decimal-le 18 (suc n) (omega arith))

-- ---- which bytes they are
pub signed_between : (lo hi : ℕ) → lo ≤ 45 → 57 ≤ hi → (z : ℤ) → Between lo hi (signed z)
unfolding signed
signed_between lo hi l h (pos n) = decimal_between lo hi (omega arith) h n
signed_between lo hi l h (negsuc n) = (omega arith, omega arith, decimal_between lo hi (omega arith) h (suc n))

pub signed_before-between : (lo hi : ℕ) → lo ≤ 45 → 57 ≤ hi → (z : ℤ) (t : List ℕ) → Between lo hi t → Between lo hi (signed_before z t)
unfolding signed_before
signed_before-between lo hi l h z t b = Between-append lo hi (signed z) t (signed_between lo hi l h z) b

-- ---- reading it back
signed_of-signed : (z : ℤ) → signed_of (signed z) ≡ Some z
unfolding signed
signed_of-signed (pos n) =
    signed_of_of_digits (decimal n) n (length-decimal-pos n) (decimal_between 48 57 (omega arith) (omega arith) n) (read_from-decimal n)
signed_of-signed (negsuc n) = signed_of_of_minus (decimal (suc n)) (suc n) (length-decimal-pos (suc n)) (read_from-decimal (suc n))

-- signed bits hold the numbers from -half to half - 1
pub In_of_tests : (half : ℕ) (z : ℤ) → (le_z (neg_ℤ (pos half)) z && lt_z z (pos half)) ≡ true → In (neg_ℤ (pos half)) (pred_ℤ (pos half)) z
In_of_tests half z e =
    let p = both (le_z (neg_ℤ (pos half)) z) (lt_z z (pos half)) e in
    record { low = le_yes (lit (neg_ℤ (pos half))) (lit z) p.0; high = lt-pred (lt_yes (lit z) (lit (pos half)) p.1) }

pub tests_of_In : (half : ℕ) (z : ℤ) → In (neg_ℤ (pos half)) (pred_ℤ (pos half)) z → (le_z (neg_ℤ (pos half)) z && lt_z z (pos half)) ≡ true
tests_of_In half z r = rw (le_z-true r.low, lt_z-true (below half r.high))
  where
    below : (h : ℕ) → z ≤ℤ pred_ℤ (pos h) → z <ℤ pos h
    below zero k = parts-lt _ _ (omega (arith, le_parts k))
    below (suc h) k = parts-lt _ _ (omega (arith, le_parts k))

-- in 64 bits
pub fitted_signed-signed : (z : ℤ) → In (negsuc (2 ^ 63 - 1)) (pos (2 ^ 63 - 1)) z → fitted_signed (2 ^ 63) (signed_of (signed z)) ≡ Ok z
fitted_signed-signed z r = rw (signed_of-signed z, tests_of_In (2 ^ 63) z r)

-- ---- written in front of a place: where it starts, and the buffer after the call
abbrev pub PutSigned : ℤ → ℕ → List ℕ → ℕ → List ℕ → Type 0
PutSigned z end l at r = (at ≡ end - length (signed z)) × (r ≡ take (end - length (signed z)) l ++ signed_before z (drop end l))

module _ (l : List ℕ) (z : ℤ) (m end at : ℕ) (r₁ : List ℕ) (a : m ≡ nat_abs z) (p : at ≡ end - length (decimal m)) (e₁ : r₁ ≡ take (end - length (decimal m)) l ++ decimal_before m (drop end l)) where
  -- the digits alone
  pub put_signed_of_le : pos 0 ≤ℤ z → PutSigned z end l at r₁
  put_signed_of_le h =
      let d : length (decimal m) ≡ length (signed z) = ap (λ (v : ℕ). length (decimal v)) a ∙ sym (length-signed_of_le z h) in (
        p ∙ ap (λ (v : ℕ). end - v) d,
        e₁ ∙ (λ i. take (end - d i) l ++ decimal_before (a i) (drop end l)) ∙ ap (λ (t : List ℕ). take (end - length (signed z)) l ++ t) (sym (signed_before_of_le z (drop end l) h)),
      )

  -- and a minus in front of them
  pub put_signed_of_lt : (r₂ : List ℕ) → z <ℤ pos 0 → length (signed z) ≤ end → end ≤ length l → r₂ ≡ take (at - 1) r₁ ++ 45 ∷ drop at r₁ → PutSigned z end l (at - 1) r₂
  put_signed_of_lt r₂ h i j e₂ =
      let d : length (decimal m) ≡ length (decimal (nat_abs z)) = ap (λ (v : ℕ). length (decimal v)) a in
      let w : length (signed z) ≡ length (decimal (nat_abs z)) + 1 = length-signed_of_lt z h in
      let q : at - 1 ≡ end - length (signed z) = omega arith in
      let k : r₁ ≡ take at l ++ decimal_before m (drop end l) = e₁ ∙ ap (λ (v : ℕ). take v l ++ decimal_before m (drop end l)) (sym p) in (
        q,
        put_put (λ (t : List ℕ). 45 ∷ t) l (decimal_before m (drop end l)) r₁ r₂ (at - 1) (end - length (signed z)) at k e₂ q (omega arith) (omega arith)
            ∙ ap (λ (v : ℕ). take (end - length (signed z)) l ++ 45 ∷ decimal_before v (drop end l)) a
            ∙ ap (λ (t : List ℕ). take (end - length (signed z)) l ++ t) (sym (signed_before_of_lt z (drop end l) h)),
      )
