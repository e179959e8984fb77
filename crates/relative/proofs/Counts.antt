-- Digits are not one of the names: none of `one` to `ten` and `last` begins with a digit. So it makes no difference whether
-- digits or names are tried first.
-- Assumes nothing.
use Rattle.std.specs.Prelude.{None, Option, Some}
use mathlib.Core.Path.{◌≡◌}
use mathlib.Core.Bool.{true, false}
use mathlib.Core.List.{List, [], ◌∷◌}
use Prim.Native.Nat.{ℕ, ◌≤◌}
use Prim.Native.Char.{code}
use native.Mathlib.Omega.{arith}
use borrow.Author.Tests.{ne_eqb}
use Rattle.text.specs.Bytes.{is_digit, lower_of, same_letters}
use Rattle.text.specs.Quote.{bytes}
use Rattle.text.specs.Number.{digits_of, fit}
use Rattle.text.proofs.LowerCase.{lower_of-digit}
use Rattle.text.proofs.Numbers.{digit_range, read_from-digit, fit_value}
use Rattle.relative.specs.Words.{spelled}

-- a text that opens with a digit is not one that opens with a letter
module _ (b : ℕ) (w : List ℕ) (d : is_digit b ≡ true) where
  not_same : (c : ℕ) (t : List ℕ) → 58 ≤ lower_of c → same_letters (b ∷ w) (c ∷ t) ≡ false
  unfolding same_letters
  not_same c t h = rw (lower_of-digit b d, ne_eqb b (lower_of c) (λ e. omega (arith, digit_range b d)))

  spelled_digit : (x : Option ℕ) → spelled (b ∷ w) x ≡ x
  unfolding spelled lower_of
  spelled_digit x =
      rw (
        not_same (code "o") (bytes "ne") (omega arith),
        not_same (code "t") (bytes "wo") (omega arith),
        not_same (code "t") (bytes "hree") (omega arith),
        not_same (code "f") (bytes "our") (omega arith),
        not_same (code "f") (bytes "ive") (omega arith),
        not_same (code "s") (bytes "ix") (omega arith),
        not_same (code "s") (bytes "even") (omega arith),
        not_same (code "e") (bytes "ight") (omega arith),
        not_same (code "n") (bytes "ine") (omega arith),
        not_same (code "t") (bytes "en") (omega arith),
        not_same (code "l") (bytes "ast") (omega arith),
      )

-- so a text of digits is not looked up among the names
pub spelled_of_digits : (limit n : ℕ) (w : List ℕ) (x : Option ℕ) → fit limit (digits_of w) ≡ Some n → spelled w x ≡ x
unfolding digits_of
spelled_of_digits limit n [] x h = let z : ◌≡◌ {A = ℕ} 0 1 = cc (fit_value limit n None h) in absurd (omega arith)
spelled_of_digits limit n (b ∷ w) x h = spelled_digit b w (read_from-digit 0 b w n (fit_value limit n _ h)) x
