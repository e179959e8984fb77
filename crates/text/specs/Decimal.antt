-- Plain decimal (RULES 9.1): the digits of a number, as bytes, with no zero in front except for 0 itself (proved as
-- `decimal_digits`), and `-` in front of a negative number. `decimal_before`, `signed_before` and `two_before` have a text t after
-- the digits, since a line is written from its end to its front.
-- Assumes nothing.
use Rattle.std.specs.Prelude.{ℕ, zero, suc, ◌+◌, ◌/◌, ◌%◌, cond, List, [], ◌∷◌, ◌++◌, ltb, ℤ, pos, negsuc}
use Prim.Native.Char.{code}

-- the byte of a digit
abbrev pub digit : ℕ → ℕ
digit d = code "0" + d

-- the digits of n, at most k of them: n itself if it is below 10; else the digits of n / 10 and then n % 10
unfoldable pub digits_up_to : ℕ → ℕ → List ℕ
digits_up_to zero n = []
digits_up_to (suc k) n =
    let tens-and-ones = digits_up_to k (n / 10) ++ digit (n % 10) ∷ [] in
    cond (ltb n 10) (digit n ∷ []) tens-and-ones

-- the digits of n: there are at most n + 1 of them
unfoldable pub decimal : ℕ → List ℕ
decimal n = digits_up_to (suc n) n

unfoldable pub decimal_before : ℕ → List ℕ → List ℕ
decimal_before n t = decimal n ++ t

-- z in plain decimal
unfoldable pub signed : ℤ → List ℕ
signed (pos n) = decimal n
signed (negsuc n) = code "-" ∷ decimal (suc n)

unfoldable pub signed_before : ℤ → List ℕ → List ℕ
signed_before z t = signed z ++ t

-- two digits of n, in front of t
abbrev pub two_before : ℕ → List ℕ → List ℕ
two_before n t = digit (n / 10) ∷ digit (n % 10) ∷ t
