-- Digits. In order: a digit is no sign, no white space and no other mark; two digits of a number below 100, and their value.
-- Assumes nothing.
use Rattle.std.specs.Prelude.{Some}
use mathlib.Core.Path.{◌≡◌, refl, sym, ap, ◌∙◌}
use mathlib.Core.Bool.{Bool, true, false, ◌&&◌, false≢true}
use mathlib.Core.List.{List, [], ◌∷◌}
use Prim.Native.Nat.{ℕ, ◌+◌, ◌-◌, ◌*◌, ◌/◌, ◌%◌, ◌≤◌, ◌<◌}
use native.Mathlib.Omega.{arith}
use borrow.Author.Tests.{ne_eqb, le-leb, lt-leb, leb-true, eqb-true}
use lib.Dec.{leb, eqb}
use lib.ListN.{get_or}
use Rattle.text.specs.Bytes.{is_digit, is_space, is_sign}
use Rattle.text.specs.Decimal.{two_before}
use Rattle.text.specs.Number.{read_from, digits_of, unsigned_of, fit}
use Rattle.text.specs.Places.{run, leading}
use Rattle.text.proofs.Lists.{by_test, both}
use Rattle.text.proofs.Numbers.{digit_range, is_digit_of_le}

-- ---- what a digit is not
-- two bytes are different if a test holds for one only
eqb_of_test : (t : ℕ → Bool) (b x : ℕ) → t b ≡ true → t x ≡ false → eqb b x ≡ false
eqb_of_test t b x p q = ne_eqb b x (λ e. false≢true (sym q ∙ ap t (sym e) ∙ p))

pub is_sign_of_digit : (b : ℕ) → is_digit b ≡ true → is_sign b ≡ false
unfolding is_sign is_digit
is_sign_of_digit b p = rw (eqb_of_test is_digit b 43 p refl, eqb_of_test is_digit b 45 p refl)

pub is_space_of_digit : (b : ℕ) → is_digit b ≡ true → is_space b ≡ false
unfolding is_space
is_space_of_digit b p =
    let r = digit_range b p in
    let l : 13 < b = omega (arith, r.0) in
    let n : 9 ≤ b = omega (arith, r.0) in
    rw (le-leb 9 b n, lt-leb b 13 l, ne_eqb b 32 (λ e. omega (arith, r.0, e)))

-- a sign is no digit
is_digit_of_sign : (b : ℕ) → is_sign b ≡ true → is_digit b ≡ false
is_digit_of_sign b h = by_test (is_digit b) (λ p. absurd (false≢true (sym (is_sign_of_digit b p) ∙ h))) (λ p. p)

pub leading_of_is_sign : (w : List ℕ) → is_sign (get_or w 0 0) ≡ true → leading is_digit w ≡ []
unfolding run
leading_of_is_sign [] e = refl
leading_of_is_sign (b ∷ w) e = rw (is_digit_of_sign b e)

-- white space is at most byte 32
pub space_range : (b : ℕ) → is_space b ≡ true → b ≤ 32
unfolding is_space
space_range b e = by_test (leb 9 b && leb b 13) (λ k. omega (arith, leb-true b 13 (both (leb 9 b) (leb b 13) k).1)) (λ k. omega (arith, eqb-true b 32 (rw k at e)))

module _ (b : ℕ) (p : is_digit b ≡ true) where
  pub no_space : eqb b 32 ≡ false
  unfolding is_digit
  no_space = eqb_of_test is_digit b 32 p refl

  pub no_plus : eqb b 43 ≡ false
  unfolding is_digit
  no_plus = eqb_of_test is_digit b 43 p refl

  pub no_dash : eqb b 45 ≡ false
  unfolding is_digit
  no_dash = eqb_of_test is_digit b 45 p refl

  pub no_dot : eqb b 46 ≡ false
  unfolding is_digit
  no_dot = eqb_of_test is_digit b 46 p refl

  pub no_colon : eqb b 58 ≡ false
  unfolding is_digit
  no_colon = eqb_of_test is_digit b 58 p refl

  pub no_Z : eqb b 90 ≡ false
  unfolding is_digit
  no_Z = eqb_of_test is_digit b 90 p refl

-- ---- two digits of a number below 100
pub tens : (n : ℕ) → n < 100 → is_digit (48 + n / 10) ≡ true
tens n h = is_digit_of_le (48 + n / 10) (omega arith) (omega arith)

pub ones : (n : ℕ) → is_digit (48 + n % 10) ≡ true
ones n = is_digit_of_le (48 + n % 10) (omega arith) (omega arith)

pub unsigned_of-two-digits : (a b : ℕ) → is_digit a ≡ true → is_digit b ≡ true → unsigned_of (a ∷ b ∷ []) ≡ Some (10 * (a - 48) + (b - 48))
unfolding unsigned_of digits_of read_from
unsigned_of-two-digits a b x y =
    let e : 10 * (10 * 0 + (a - 48)) + (b - 48) ≡ 10 * (a - 48) + (b - 48) = omega arith in
    rw (no_plus a x, x, y) (ap Some e)

pub unsigned_of-two : (n : ℕ) → n < 100 → unsigned_of (two_before n []) ≡ Some n
unsigned_of-two n h =
    let e : 10 * (48 + n / 10 - 48) + (48 + n % 10 - 48) ≡ n = omega arith in
    unsigned_of-two-digits (48 + n / 10) (48 + n % 10) (tens n h) (ones n) ∙ ap Some e

-- in any width that holds n
pub fit-two : (n limit : ℕ) → n < 100 → n ≤ limit → fit limit (unsigned_of (two_before n [])) ≡ Some n
unfolding fit
fit-two n limit h k = ap (fit limit) (unsigned_of-two n h) ∙ rw (le-leb n limit k)
