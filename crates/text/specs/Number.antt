-- Numbers: an optional sign and then digits only, at least one, whose value fits the width (RULES 4.2 to 4.4 and 4.7). Values
-- are unbounded; only `fitted` and `fitted_signed` know a width, and `fit` and `fit_signed` by them.
-- Assumes nothing.
use Rattle.std.specs.Prelude.{ℕ, suc, ◌+◌, ◌-◌, ◌*◌, ◌≤◌, ◌^◌, ◌≡◌, cond, ◌&&◌, List, [], ◌∷◌, leb, eqb, pos, neg_ℤ, take, get_or, Err, None, Ok, Option, Result, Some, ℤ}
use Prim.Native.Char.{code}
use Rattle.std.specs.Result.{result_ok}
use Rattle.std.specs.Int.Signed.{le_z, lt_z}
use Rattle.text.specs.Bytes.{is_digit, is_sign}
use Rattle.text.specs.Places.{run}
use Rattle.text.specs.declared.number.Width.{Width}
use Rattle.text.specs.declared.number.Width.TheVariants.{Bits32, Bits64}
use Rattle.text.specs.declared.number.LeadingInteger.{LeadingInteger}
use Rattle.text.specs.declared.number.NumberError.TheVariants.{TooLarge as TooLargeNumber, NoNumber}
use Rattle.text.specs.declared.number.NumberError.{NumberError}

-- digits only: their value, where the digits before them have the value v
unfoldable pub read_from : ℕ → List ℕ → Option ℕ
read_from v [] = Some v
read_from v (b ∷ s) = cond (is_digit b) (read_from (10 * v + (b - code "0")) s) None

-- at least one
unfoldable pub digits_of : List ℕ → Option ℕ
digits_of [] = None
digits_of (b ∷ s) = read_from 0 (b ∷ s)

-- unsigned: an optional `+` before them, so `-0` is not one
unfoldable pub unsigned_of : List ℕ → Option ℕ
unsigned_of [] = None
unsigned_of (b ∷ s) = cond (eqb b (code "+")) (digits_of s) (digits_of (b ∷ s))

abbrev pub plus : Option ℕ → Option ℤ
plus (Some n) = Some (pos n)
plus None = None

abbrev pub minus : Option ℕ → Option ℤ
minus (Some n) = Some (neg_ℤ (pos n))
minus None = None

-- signed: an optional `+` or `-` before them
unfoldable pub signed_of : List ℕ → Option ℤ
signed_of [] = None
signed_of (b ∷ s) = cond (eqb b (code "-")) (minus (digits_of s)) (plus (unsigned_of (b ∷ s)))

-- the value fits the width if it is at most the limit; a larger one is too large. What is no number is none at any width
abbrev pub fitted : ℕ → Option ℕ → Result ℕ NumberError
fitted limit (Some n) = cond (leb n limit) (Ok n) (Err TooLargeNumber)
fitted limit None = Err NoNumber

-- the same for readers to which a number that is too large is no number
unfoldable pub fit : ℕ → Option ℕ → Option ℕ
fit limit x = result_ok (fitted limit x)

-- half of a width of w bits is 2 to the w - 1
abbrev pub half_of : Width → ℕ
half_of Bits32 = 2 ^ 31
half_of Bits64 = 2 ^ 63

-- signed bits hold the numbers from -half to half - 1; any other is too large
abbrev pub fitted_signed : ℕ → Option ℤ → Result ℤ NumberError
fitted_signed half (Some z) = cond (le_z (neg_ℤ (pos half)) z && lt_z z (pos half)) (Ok z) (Err TooLargeNumber)
fitted_signed half None = Err NoNumber

-- the same for readers to which a number that is too large is no number
unfoldable pub fit_signed : ℕ → Option ℤ → Option ℤ
fit_signed half x = result_ok (fitted_signed half x)

-- how many bytes at the front of s are a sign, if there is one, and digits
unfoldable pub numeral : List ℕ → ℕ
numeral [] = 0
numeral (b ∷ s) = cond (is_sign b) (suc (run is_digit s)) (run is_digit (b ∷ s))

-- what is read from those bytes, where s begins at the place `at` of a text
pub record LeadsWith (half : ℕ) (s : List ℕ) (at : ℕ) (r : LeadingInteger) : Type 0 where
  pub number_is : r.number ≡ fitted_signed half (signed_of (take (numeral s) s))
  pub end_is : r.end ≡ at + numeral s
  pub signed_is : r.signed ≡ is_sign (get_or s 0 0)

-- at most k, if it is a number
abbrev pub AtMost : ℕ → Option ℕ → Type 0
AtMost k (Some n) = n ≤ k
AtMost k None = Unit {0}
