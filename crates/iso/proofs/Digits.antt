-- Digits, as the ISO writer writes them: two of them and four as 32-bit numbers; an ASCII text.
-- Assumes nothing.
use Rattle.std.specs.Prelude.{Some}
use mathlib.Core.Path.{◌≡◌, refl, ap, ◌∙◌}
use mathlib.Core.Bool.{true}
use mathlib.Core.List.{List, [], ◌∷◌}
use Prim.Native.Nat.{ℕ, ◌+◌, ◌-◌, ◌*◌, ◌/◌, ◌%◌, ◌^◌, ◌<◌}
use native.Mathlib.Omega.{arith}
use borrow.Author.Tests.{lt-ltb}
use lib.IntN.{pos}
use Rattle.text.specs.Bytes.{ascii}
use Rattle.text.specs.Decimal.{two_before}
use Rattle.text.specs.Number.{read_from, digits_of, unsigned_of, signed_of}
use Rattle.text.proofs.Digits.{no_plus, no_dash, tens, ones}
use Rattle.text.proofs.Numbers.{fit_signed_of_length}
use Rattle.text.proofs.Texts.{signed_of-two}
use Rattle.iso.specs.Parts.{int32}

-- two digits of a number below 100
module _ (n : ℕ) (h : n < 100) where
  pub int32-two : int32 (two_before n []) ≡ Some (pos n)
  unfolding int32
  int32-two = fit_signed_of_length (2 ^ 31) (two_before n []) (omega arith) ∙ signed_of-two n h

-- four digits of a number below 10,000
module _ (n : ℕ) (h : n < 10000) where
  high : n / 100 < 100
  high = omega arith

  low : n % 100 < 100
  low = omega arith

  pub int32_four : int32 (two_before (n / 100) (two_before (n % 100) [])) ≡ Some (pos n)
  unfolding int32 signed_of unsigned_of digits_of read_from
  int32_four =
      let b = 48 + n / 100 / 10 in
      let e : 10 * (10 * (10 * (10 * 0 + (48 + n / 100 / 10 - 48)) + (48 + n / 100 % 10 - 48)) + (48 + n % 100 / 10 - 48)) + (48 + n % 100 % 10 - 48) ≡ n = omega arith in
      fit_signed_of_length (2 ^ 31) (two_before (n / 100) (two_before (n % 100) [])) (omega arith)
      ∙ rw (no_dash b (tens (n / 100) high), no_plus b (tens (n / 100) high), tens (n / 100) high, ones (n / 100), tens (n % 100) low, ones (n % 100)) (ap (λ (v : ℕ). Some (pos v)) e)

-- ---- ASCII
abbrev Narrow : List ℕ → Type 0
Narrow [] = Unit {0}
Narrow (b ∷ s) = (b < 128) × Narrow s

pub ascii_of_Narrow : (s : List ℕ) → Narrow s → ascii s ≡ true
unfolding ascii
ascii_of_Narrow [] n = refl
ascii_of_Narrow (b ∷ s) n = rw (lt-ltb b 128 n.0, ascii_of_Narrow s n.1)
