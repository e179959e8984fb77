-- An offset's word whose fields are unsigned numbers, as in a raw date: read as signed numbers they are the same
-- (`fields_of-signed`), hours and minutes are not negative, and the word has signs and digits alone (`between_of_fields_of`).
-- Assumes nothing.
use Rattle.std.specs.Prelude.{None, Option, Some}
use mathlib.Core.Path.{◌≡◌, refl, sym, ◌∙◌}
use mathlib.Core.Bool.{Bool, true, false≢true}
use mathlib.Core.List.{List, [], ◌∷◌}
use Prim.Native.Nat.{ℕ, ◌≤◌}
use native.Mathlib.Omega.{arith}
use borrow.Author.Tests.{eqb-true}
use lib.Dec.{eqb}
use lib.IntN.{ℤ, pos, negsuc}
use lib.ListN.{length, take, drop, get_or, drop_of_length-le, take-append-drop}
use lib.Seq.{drop-drop}
use Rattle.text.specs.Bytes.{is_sign}
use Rattle.text.specs.Number.{unsigned_of, fit, plus}
use Rattle.text.proofs.Lists.{by_test}
use Rattle.text.proofs.Numbers.{fit-take}
use Rattle.text.proofs.Decimals.{Between, Between-append}
use Rattle.header.specs.Offset.{five_or_seven, field_of, last_field, together, fields_of, Signed, Byte}
use Rattle.header.specs.declared.offset.Fields.{Fields}
use Rattle.text.proofs.Texts.{between_of_unsigned_of, signed_of_of_unsigned_of}
use Rattle.header.proofs.Offsets.{fields_of_of_tests, fields_of_of_length, fields_of_of_sign}

between_cut : (n : ℕ) (w : List ℕ) → Between 43 57 (take n w) → Between 43 57 (drop n w) → Between 43 57 w
between_cut n w a b = rw (take-append-drop n w) at (Between-append 43 57 (take n w) (drop n w) a b)

-- ---- fields
-- a field that is an unsigned number is the same signed number, and its bytes lie between `+` and `9`
abbrev bytes_at : List ℕ → ℕ → List ℕ
bytes_at w at = take 2 (drop at w)

record Same (w : List ℕ) (at : ℕ) (z : ℤ) : Type 0 where
  signed : field_of Signed w at ≡ Some z
  between : Between 43 57 (bytes_at w at)

field_same : (w : List ℕ) (at : ℕ) (z : ℤ) → field_of Byte w at ≡ Some z → Same w at z
unfolding field_of
field_same w at z e = go (unsigned_of (bytes_at w at)) refl (rw (fit-take 255 (drop at w) (omega arith)) at e)
  where
    go : (x : Option ℕ) → unsigned_of (bytes_at w at) ≡ x → plus x ≡ Some z → Same w at z
    go (Some n) u k = record { signed = signed_of_of_unsigned_of (bytes_at w at) n u ∙ k; between = between_of_unsigned_of n (bytes_at w at) u }
    go None u k = let q : ◌≡◌ {A = ℕ} 0 1 = cc in absurd (omega arith)

last-same : (w : List ℕ) (z : ℤ) → last_field Byte w ≡ Some z → last_field Signed w ≡ Some z
unfolding last_field
last-same w z k = by_test (eqb (length w) 7) (λ e. rw e (field_same w 5 z (rw e at k)).signed) (λ e. rw e (rw e at k))

-- all three are numbers, and they are the fields
record Numbers (minus : Bool) (h m x : Option ℤ) (f : Fields) : Type 0 where
  hours : ℤ
  hours_is : h ≡ Some hours
  minutes : ℤ
  minutes_is : m ≡ Some minutes
  seconds : ℤ
  seconds_is : x ≡ Some seconds
  fields_are : record { minus = minus; hours = hours; minutes = minutes; seconds = seconds } ≡ f

together_numbers : (minus : Bool) (h m x : Option ℤ) (f : Fields) → together minus h m x ≡ Some f → Numbers minus h m x f
together_numbers minus (Some h) (Some m) (Some x) f e =
    record { hours = h; hours_is = refl; minutes = m; minutes_is = refl; seconds = x; seconds_is = refl; fields_are = cc }
together_numbers minus None m x f e = let z : ◌≡◌ {A = ℕ} 0 1 = cc in absurd (omega arith)
together_numbers minus (Some h) None x f e = let z : ◌≡◌ {A = ℕ} 0 1 = cc in absurd (omega arith)
together_numbers minus (Some h) (Some m) None f e = let z : ◌≡◌ {A = ℕ} 0 1 = cc in absurd (omega arith)

-- a number is not negative
abbrev pub NotNegative : ℤ → Type 0
NotNegative (pos n) = Unit {0}
NotNegative (negsuc n) = ⊥

field_of-not-negative : (w : List ℕ) (at : ℕ) (z : ℤ) → field_of Byte w at ≡ Some z → NotNegative z
unfolding field_of
field_of-not-negative w at (pos n) e = tt
field_of-not-negative w at (negsuc n) e = go (fit 255 (unsigned_of (bytes_at w at))) e
  where
    go : (x : Option ℕ) → plus x ≡ Some (negsuc n) → ⊥
    go (Some k) k-is = let q : ◌≡◌ {A = ℕ} 0 1 = cc in omega arith
    go None k-is = let q : ◌≡◌ {A = ℕ} 0 1 = cc in omega arith

-- ---- an offset that raw accepts
module _ (w : List ℕ) (f : Fields) (e : fields_of Byte w ≡ Some f) where
  pub fields_of-some : fields_of Byte w ≡ None → ⊥
  fields_of-some k = let z : ◌≡◌ {A = ℕ} 0 1 = cc in omega arith

  right-length : five_or_seven (length w) ≡ true
  right-length = by_test (five_or_seven (length w)) (λ a. a) (λ a. absurd (fields_of-some (fields_of_of_length Byte w a)))

  right_sign : is_sign (get_or w 0 0) ≡ true
  right_sign = by_test (is_sign (get_or w 0 0)) (λ a. a) (λ a. absurd (fields_of-some (fields_of_of_sign Byte w a)))

  opened : together (eqb (get_or w 0 0) 45) (field_of Byte w 1) (field_of Byte w 3) (last_field Byte w) ≡ Some f
  opened = sym (fields_of_of_tests Byte w right-length right_sign) ∙ e

  numbers : Numbers (eqb (get_or w 0 0) 45) (field_of Byte w 1) (field_of Byte w 3) (last_field Byte w) f
  numbers = together_numbers _ (field_of Byte w 1) (field_of Byte w 3) (last_field Byte w) f opened

  hours_same : Same w 1 numbers.hours
  hours_same = field_same w 1 numbers.hours numbers.hours_is

  minutes_same : Same w 3 numbers.minutes
  minutes_same = field_same w 3 numbers.minutes numbers.minutes_is

  -- it holds the same fields, signed
  pub fields_of-signed : fields_of Signed w ≡ Some f
  fields_of-signed =
      fields_of_of_tests Signed w right-length right_sign
      ∙ rw (hours_same.signed, minutes_same.signed, last-same w numbers.seconds numbers.seconds_is, numbers.fields_are)

  -- its hours and minutes are not negative
  pub fields_of-not-negative : NotNegative f.hours × NotNegative f.minutes
  fields_of-not-negative =
      rw (← numbers.fields_are)
      (field_of-not-negative w 1 numbers.hours numbers.hours_is, field_of-not-negative w 3 numbers.minutes numbers.minutes_is)

  -- and its bytes lie between `+` and `9`
  between_from_5 : Between 43 57 (drop 5 w)
  unfolding last_field five_or_seven
  between_from_5 =
      by_test (eqb (length w) 7)
      (λ a.
      let end : drop 2 (drop 5 w) ≡ [] = drop-drop 2 5 w ∙ drop_of_length-le w {i = 7} (omega (arith, eqb-true (length w) 7 a)) in
      between_cut 2 (drop 5 w) (field_same w 5 numbers.seconds (rw a at numbers.seconds_is)).between (rw end tt))
      (λ a.
      by_test (eqb (length w) 5) (λ b. rw (drop_of_length-le w (five b)) tt) (λ b. absurd (false≢true (rw (a, b) at right-length))))
    where
      five : eqb (length w) 5 ≡ true → length w ≤ 5
      five b = omega (arith, eqb-true (length w) 5 b)

  between_from_1 : Between 43 57 (drop 1 w)
  between_from_1 =
      between_cut 2 (drop 1 w) hours_same.between
      (rw (drop-drop 2 1 w) (between_cut 2 (drop 3 w) minutes_same.between (rw (drop-drop 2 3 w) between_from_5)))

between_sign : (w : List ℕ) → is_sign (get_or w 0 0) ≡ true → Between 43 57 (take 1 w)
unfolding is_sign
between_sign [] h = tt
between_sign (b ∷ w) h =
    by_test (eqb b 43) (λ e. let k = eqb-true b 43 e in (omega arith, omega arith, tt)) (λ e. let k = eqb-true b 45 (rw e at h) in (omega arith, omega arith, tt))

pub between_of_fields_of : (w : List ℕ) (f : Fields) → fields_of Byte w ≡ Some f → Between 43 57 w
between_of_fields_of w f e = between_cut 1 w (between_sign w (right_sign w f e)) (between_from_1 w f e)
