-- The offset. In order: a field, and how large it can be; hours and minutes; the whole offset, by its first byte.
-- Assumes nothing.
use Rattle.std.specs.Prelude.{None, Option, Some}
use mathlib.Core.Path.{◌≡◌, refl, subst}
use mathlib.Core.List.{List, [], ◌∷◌}
use Prim.Native.Nat.{ℕ, ◌-◌, ◌^◌}
use native.Mathlib.Omega.{arith}
use borrow.Author.Tests.{ne_eqb}
use lib.IntN.{ℤ, pos, neg_ℤ, ◌+ℤ◌, ◌*ℤ◌}
use lib.ListN.{length, get_or, take, drop}
use lib.Signed.{◌≤ℤ◌, ◌<ℤ◌}
use Rattle.ints.specs.Range.{In}
use Rattle.ints.proofs.Machine.{In_of_nat_abs, le_z-true, le_z-false}
use Rattle.text.specs.Number.{signed_of, fit_signed}
use Rattle.text.proofs.Lists.{take-length-sub-drop}
use Rattle.text.proofs.Numbers.{Short, signed_of-short, fit_signed_of_length}
use Rattle.iso.specs.Parts.{without, int32}
use Rattle.iso.specs.Offset.{up_to, offset_seconds, hours_minutes, negated, iso_offset}
use Rattle.iso.specs.Held.{Within}

-- ---- a field of two bytes is from -99 to 99
Within_of_Short : (x : Option ℤ) → Short 100 x → Within 99 x
Within_of_Short (Some z) h = In_of_nat_abs 99 z (omega (arith, h))
Within_of_Short None h = tt

pub int32-two-within : (x y : ℕ) → Within 99 (int32 (x ∷ y ∷ []))
unfolding int32
int32-two-within x y = rw (fit_signed_of_length (2 ^ 31) (x ∷ y ∷ []) (omega arith)) (Within_of_Short (signed_of (x ∷ y ∷ [])) (signed_of-short (x ∷ y ∷ [])))

-- ---- hours and minutes, of four bytes that are held
pub hours_minutes-two : (f : List ℕ) → length f ≡ 4 → offset_seconds (up_to (pos 23) (int32 (get_or f 0 0 ∷ get_or f 1 0 ∷ []))) (Some (pos 0)) ≡ hours_minutes (take 2 f)
unfolding hours_minutes
hours_minutes-two [] h = absurd (omega arith)
hours_minutes-two (a ∷ []) h = absurd (omega arith)
hours_minutes-two (a ∷ b ∷ f) h = refl

pub hours_minutes-four : (f : List ℕ) → length f ≡ 4
    → offset_seconds (up_to (pos 23) (int32 (get_or f 0 0 ∷ get_or f 1 0 ∷ []))) (up_to (pos 59) (int32 (get_or f 2 0 ∷ get_or f 3 0 ∷ []))) ≡ hours_minutes (take 4 f)
unfolding hours_minutes
hours_minutes-four [] h = absurd (omega arith)
hours_minutes-four (a ∷ []) h = absurd (omega arith)
hours_minutes-four (a ∷ b ∷ []) h = absurd (omega arith)
hours_minutes-four (a ∷ b ∷ c ∷ []) h = absurd (omega arith)
hours_minutes-four (a ∷ b ∷ c ∷ d ∷ f) h = refl

pub hours_minutes-not : (l : List ℕ) → (length l ≡ 2 → ⊥) → (length l ≡ 4 → ⊥) → None ≡ hours_minutes l
unfolding hours_minutes
hours_minutes-not l a b = rw (ne_eqb (length l) 2 a, ne_eqb (length l) 4 b)

-- ---- the whole offset
pub iso_offset-nil : (s : List ℕ) → length s ≡ 0 → Some (pos 0) ≡ iso_offset s
unfolding iso_offset
iso_offset-nil [] h = refl
iso_offset-nil (b ∷ s) h = absurd (omega arith)

pub iso_offset-east : (s : List ℕ) → get_or s 0 0 ≡ 43 → hours_minutes (without 58 (take (length s - 1) (drop 1 s))) ≡ iso_offset s
unfolding iso_offset
iso_offset-east [] e = absurd (omega arith)
iso_offset-east (b ∷ s) e = rw (take-length-sub-drop (b ∷ s) 1, e)

pub iso_offset-west : (s : List ℕ) → get_or s 0 0 ≡ 45 → negated (hours_minutes (without 58 (take (length s - 1) (drop 1 s)))) ≡ iso_offset s
unfolding iso_offset
iso_offset-west [] e = absurd (omega arith)
iso_offset-west (b ∷ s) e = rw (take-length-sub-drop (b ∷ s) 1, e)

pub iso_offset-zed : (s : List ℕ) → get_or s 0 0 ≡ 90 → length s ≡ 1 → Some (pos 0) ≡ iso_offset s
unfolding iso_offset
iso_offset-zed [] e h = absurd (omega arith)
iso_offset-zed (b ∷ s) e h = let z : length s ≡ 0 = omega arith in rw (e, z)

pub iso_offset-zed-not : (s : List ℕ) → get_or s 0 0 ≡ 90 → (length s ≡ 1 → ⊥) → None ≡ iso_offset s
unfolding iso_offset
iso_offset-zed-not [] e h = absurd (omega arith)
iso_offset-zed-not (b ∷ s) e h = rw (e, ne_eqb (length s) 0 (λ z. h (omega (arith, z))))

pub iso_offset-not : (s : List ℕ) → (length s ≡ 0 → ⊥) → (get_or s 0 0 ≡ 43 → ⊥) → (get_or s 0 0 ≡ 45 → ⊥) → (get_or s 0 0 ≡ 90 → ⊥) → None ≡ iso_offset s
unfolding iso_offset
iso_offset-not [] h p m z = absurd (h refl)
iso_offset-not (b ∷ s) h p m z = rw (ne_eqb b 90 z, ne_eqb b 43 p, ne_eqb b 45 m)

-- ---- the answers of the code, case by case
-- a number that is there is within k
pub In_of_Within : {k : ℕ} {x : Option ℤ} {z : ℤ} → x ≡ Some z → Within k x → In (neg_ℤ (pos k)) (pos k) z
In_of_Within {k} e w = subst (Within k) e w

module _ (limit : ℤ) (s : List ℕ) where
  pub up_to-not : fit_signed (2 ^ 31) (signed_of s) ≡ None → None ≡ up_to limit (int32 s)
  unfolding up_to int32
  up_to-not e = rw e

  pub up_to-value : {z : ℤ} → fit_signed (2 ^ 31) (signed_of s) ≡ Some z → z ≤ℤ limit → Some z ≡ up_to limit (int32 s)
  unfolding up_to int32
  up_to-value e h = rw (e, le_z-true h)

  pub up_to-over : {z : ℤ} → fit_signed (2 ^ 31) (signed_of s) ≡ Some z → limit <ℤ z → None ≡ up_to limit (int32 s)
  unfolding up_to int32
  up_to-over e h = rw (e, le_z-false h)

pub offset_seconds-not-hours : {h : Option ℤ} (m : Option ℤ) → h ≡ None → None ≡ offset_seconds h m
unfolding offset_seconds
offset_seconds-not-hours m e = rw e

pub offset_seconds-not-minutes : {h m : Option ℤ} {x : ℤ} → h ≡ Some x → m ≡ None → None ≡ offset_seconds h m
unfolding offset_seconds
offset_seconds-not-minutes e f = rw (e, f)

pub offset_seconds-value : {h m : Option ℤ} {x y : ℤ} → h ≡ Some x → m ≡ Some y → Some (x *ℤ pos 3600 +ℤ y *ℤ pos 60) ≡ offset_seconds h m
unfolding offset_seconds
offset_seconds-value e f = rw (e, f)

pub negated-not : {o : Option ℤ} → o ≡ None → None ≡ negated o
unfolding negated
negated-not e = rw e

pub negated_value : {o : Option ℤ} {z : ℤ} → o ≡ Some z → Some (neg_ℤ z) ≡ negated o
unfolding negated
negated_value e = rw e
