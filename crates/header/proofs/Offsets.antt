-- An offset's word. In order: its length; how large a field is, so that no sum overflows; two digits; the cases of `fields_of`.
-- Assumes nothing.
use Rattle.std.specs.Prelude.{None, Option, Some}
use mathlib.Core.Path.{◌≡◌, refl}
use mathlib.Core.Bool.{Bool, true, false}
use mathlib.Core.List.{List}
use Prim.Native.Nat.{ℕ, ◌+◌, ◌^◌, ◌≤◌, ◌<◌}
use native.Mathlib.Omega.{arith}
use borrow.Author.Tests.{eqb-true}
use lib.Dec.{eqb}
use lib.IntN.{ℤ, pos, negsuc, nat_abs}
use lib.ListN.{length, take, drop, get_or}
use Rattle.ints.specs.Range.{In}
use Rattle.ints.proofs.Machine.{In_of_nat_abs}
use Rattle.text.specs.Bytes.{is_digit, is_sign}
use Rattle.text.specs.Number.{signed_of, unsigned_of, plus}
use Rattle.text.proofs.Lists.{by_test, take-two-drop}
use Rattle.text.proofs.Digits.{unsigned_of-two-digits}
use Rattle.text.proofs.Numbers.{Short, Below, signed_of-short, unsigned_of-below, pow-length-take, fit-take}
use Rattle.text.proofs.Texts.{signed_of_of_unsigned_of}
use Rattle.header.specs.Offset.{five_or_seven, field_of, last_field, together, fields_of, Field, Signed, Byte}
use Rattle.header.specs.Header.{header_offset}
use Rattle.header.specs.Held.{Small, AllSmall, two_bytes_of, two_digits}
use Rattle.header.specs.declared.offset.Fields.{Fields}

pub le_of_five_or_seven : (n : ℕ) → five_or_seven n ≡ true → 5 ≤ n
unfolding five_or_seven
le_of_five_or_seven n e = by_test (eqb n 5) (λ a. omega (arith, eqb-true n 5 a)) (λ a. omega (arith, eqb-true n 7 (rw a at e)))

-- a field is the number in its two bytes
pub field_of_is : (by : Field) (w : List ℕ) (at : ℕ) → two_bytes_of by (take 2 (drop at w)) ≡ field_of by w at
unfolding field_of
field_of_is Signed w at = refl
field_of_is Byte w at = refl

-- ---- how large a field is
-- the number of two bytes is below 100 in size
abbrev TwoBytes : Option ℤ → Type 0
TwoBytes (Some z) = In (negsuc 98) (pos 99) z
TwoBytes None = Unit {0}

two_bytes : (z : ℤ) → nat_abs z < 100 → TwoBytes (Some z)
two_bytes z h = In_of_nat_abs 99 z (omega arith)

field_of-two-bytes : (by : Field) (w : List ℕ) (at : ℕ) → TwoBytes (field_of by w at)
unfolding field_of
field_of-two-bytes Signed w at = go (signed_of (take 2 (drop at w))) (signed_of-short (take 2 (drop at w)))
  where
    go : (x : Option ℤ) → Short (10 ^ length (take 2 (drop at w))) x → TwoBytes x
    go (Some z) b = two_bytes z (omega (arith, pow-length-take (drop at w)))
    go None b = tt
field_of-two-bytes Byte w at = rw (fit-take 255 (drop at w) (omega arith)) (go (unsigned_of (take 2 (drop at w))) (unsigned_of-below (take 2 (drop at w))))
  where
    go : (x : Option ℕ) → Below (10 ^ length (take 2 (drop at w))) x → TwoBytes (plus x)
    go (Some n) b = two_bytes (pos n) (omega (arith, pow-length-take (drop at w)))
    go None b = tt

last_field-two-bytes : (by : Field) (w : List ℕ) → TwoBytes (last_field by w)
unfolding last_field
last_field-two-bytes by w = by_test (eqb (length w) 7) (λ e. rw e (field_of-two-bytes by w 5)) (λ e. rw e (two_bytes (pos 0) (omega arith)))

together_small : (minus : Bool) (h m x : Option ℤ) → TwoBytes h → TwoBytes m → TwoBytes x → AllSmall (together minus h m x)
together_small minus (Some h) (Some m) (Some x) p q r = record { hours_in_range = p; minutes_in_range = q; seconds_in_range = r }
together_small minus None m x p q r = tt
together_small minus (Some h) None x p q r = tt
together_small minus (Some h) (Some m) None p q r = tt

-- ---- two digits are a number of either kind
module _ (w : List ℕ) (at : ℕ) (h : at + 2 ≤ length w) (x : is_digit (get_or w at 0) ≡ true) (y : is_digit (get_or w (at + 1) 0) ≡ true) where
  abbrev value : ℕ
  value = two_digits (get_or w at 0) (get_or w (at + 1) 0)

  unsigned_of-digits : unsigned_of (take 2 (drop at w)) ≡ Some value
  unsigned_of-digits = rw (take-two-drop w at h) (unsigned_of-two-digits (get_or w at 0) (get_or w (at + 1) 0) x y)

  pub field_of_of_digits : (by : Field) → field_of by w at ≡ Some (pos value)
  unfolding field_of
  field_of_of_digits Signed = signed_of_of_unsigned_of (take 2 (drop at w)) value unsigned_of-digits
  field_of_of_digits Byte = rw (fit-take 255 (drop at w) (omega arith), unsigned_of-digits)

-- ---- the cases of `fields_of`
module _ (by : Field) (w : List ℕ) where
  pub fields_of_of_tests : five_or_seven (length w) ≡ true → is_sign (get_or w 0 0) ≡ true
      → fields_of by w ≡ together (eqb (get_or w 0 0) 45) (field_of by w 1) (field_of by w 3) (last_field by w)
  unfolding fields_of
  fields_of_of_tests a b = rw (a, b)

  pub fields_of_of_length : five_or_seven (length w) ≡ false → fields_of by w ≡ None
  unfolding fields_of
  fields_of_of_length a = rw a

  pub fields_of_of_sign : is_sign (get_or w 0 0) ≡ false → fields_of by w ≡ None
  unfolding fields_of
  fields_of_of_sign b = by_test (five_or_seven (length w)) (λ a. rw (a, b)) (λ a. rw a)

  pub fields_of-all_small : AllSmall (fields_of by w)
  fields_of-all_small =
      by_test (five_or_seven (length w))
      (λ a.
      by_test (is_sign (get_or w 0 0)) (λ b. rw (fields_of_of_tests a b) (together_small _ (field_of by w 1) (field_of by w 3) (last_field by w) (field_of-two-bytes by w 1) (field_of-two-bytes by w 3) (last_field-two-bytes by w))) (λ b. rw (fields_of_of_sign b) tt))
      (λ a. rw (fields_of_of_length a) tt)

  pub fields_of-small : (f : Fields) → fields_of by w ≡ Some f → Small f
  fields_of-small f e = rw e at fields_of-all_small

pub header_offset-all_small : (w : List ℕ) → AllSmall (header_offset w)
unfolding header_offset
header_offset-all_small w = by_test (is_digit (get_or w 1 0)) (λ d. rw d (fields_of-all_small Signed w)) (λ d. rw d tt)
