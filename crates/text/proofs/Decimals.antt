-- Plain decimal. In order: the two clauses of `decimal`, and a proof by them; a text after the digits; the promise about the
-- digits; reading them gives the number back; how many digits there are.
-- Assumes nothing.
use Rattle.std.specs.Prelude.{Some}
use mathlib.Core.Path.{◌≡◌, sym, ap, ◌∙◌, refl}
use mathlib.Core.List.{List, [], ◌∷◌, ◌++◌, append_assoc, append-nil}
use Prim.Native.Nat.{ℕ, zero, suc, ◌+◌, ◌*◌, ◌/◌, ◌%◌, ◌^◌, ◌≤◌, ◌<◌}
use Prim.Native.Char.{code}
use native.Mathlib.Nat.{pow-suc, pow-succ', one-le-pow, zero-add, div-one, div-div-eq-div-mul, not-suc-le-zero}
use native.Mathlib.Omega.{arith}
use borrow.Author.Tests.{ltb-true, ltb-false, lt-ltb, le-ltb}
use lib.Dec.{ltb}
use lib.ListN.{length, get_or, length-append, get_or-append}
use Rattle.text.specs.Number.{read_from}
use Rattle.text.specs.Decimal.{digit, digits_up_to, decimal, decimal_before, two_before}
use Rattle.text.proofs.Lists.{by_test}
use Rattle.text.proofs.Numbers.{read_from-cons, is_digit_of_le}

-- ---- the clauses of `decimal`
-- any bound above n gives the same digits
digits_up_to-unique : (k l n : ℕ) → n < k → n < l → digits_up_to k n ≡ digits_up_to l n
unfolding digits_up_to
digits_up_to-unique zero l n h i = absurd (not-suc-le-zero h)
digits_up_to-unique (suc k) zero n h i = absurd (not-suc-le-zero i)
digits_up_to-unique (suc k) (suc l) n h i =
    by_test (ltb n 10) (λ e. rw e)
    (λ e.
    let m : 10 ≤ n = ltb-false n 10 e in
    rw (e, digits_up_to-unique k l (n / 10) (omega arith) (omega arith)))

-- below 10, one digit
pub decimal_of_lt : (n : ℕ) → n < 10 → decimal n ≡ digit n ∷ []
unfolding decimal digits_up_to
decimal_of_lt n h = rw (lt-ltb n 10 h)

-- from 10 on, the digits of n / 10 and then n % 10
pub decimal_of_le : (n : ℕ) → 10 ≤ n → decimal n ≡ decimal (n / 10) ++ digit (n % 10) ∷ []
unfolding decimal digits_up_to
decimal_of_le n h = rw (le-ltb n 10 h, digits_up_to-unique n (suc (n / 10)) (n / 10) (omega arith) (omega arith))

-- a proof for every n: below 10, and for n if it holds for n / 10
by_digits : (P : ℕ → Type 0) → ((n : ℕ) → n < 10 → P n) → ((n : ℕ) → 10 ≤ n → P (n / 10) → P n) → (n : ℕ) → P n
by_digits P one more n = go n n (omega arith)
  where
    go : (k n : ℕ) → n ≤ k → P n
    go zero n h = one n (omega arith)
    go (suc k) n h =
        by_test (ltb n 10) (λ e. one n (ltb-true n 10 e))
        (λ e. let m : 10 ≤ n = ltb-false n 10 e in more n m (go k (n / 10) (omega arith)))

-- ---- a text after the digits
decimal_before-append : (n : ℕ) (t : List ℕ) → decimal_before n t ≡ decimal n ++ t
unfolding decimal_before
decimal_before-append n t = refl

pub decimal_before_of_lt : (n : ℕ) (t : List ℕ) → n < 10 → decimal_before n t ≡ (48 + n) ∷ t
unfolding decimal_before
decimal_before_of_lt n t h = rw (decimal_of_lt n h)

pub decimal_before_of_le : (n : ℕ) (t : List ℕ) → 10 ≤ n → decimal_before n t ≡ decimal_before (n / 10) ((48 + n % 10) ∷ t)
unfolding decimal_before
decimal_before_of_le n t h = rw (decimal_of_le n h) (append_assoc (decimal (n / 10)) (digit (n % 10) ∷ []) t)

-- ---- the digits
-- every byte is from lo to hi
abbrev pub Between : ℕ → ℕ → List ℕ → Type 0
Between lo hi [] = Unit {0}
Between lo hi (b ∷ s) = (lo ≤ b) × (b ≤ hi) × Between lo hi s

pub Between-append : (lo hi : ℕ) (s t : List ℕ) → Between lo hi s → Between lo hi t → Between lo hi (s ++ t)
Between-append lo hi [] t a b = b
Between-append lo hi (x ∷ s) t a b = (a.0, a.1, Between-append lo hi s t a.2 b)

pub decimal_between : (lo hi : ℕ) → lo ≤ 48 → 57 ≤ hi → (n : ℕ) → Between lo hi (decimal n)
decimal_between lo hi l h =
    by_digits (λ (n : ℕ). Between lo hi (decimal n)) (λ n m. rw (decimal_of_lt n m) (omega arith, omega arith, tt))
    (λ n m b. rw (decimal_of_le n m) (Between-append lo hi (decimal (n / 10)) (digit (n % 10) ∷ []) b (omega arith, omega arith, tt)))

pub two_before-between : (lo hi : ℕ) → lo ≤ 48 → 57 ≤ hi → (n : ℕ) (t : List ℕ) → n < 100 → Between lo hi t → Between lo hi (two_before n t)
two_before-between lo hi l u n t k b = (omega arith, omega arith, (omega arith, omega arith, b))

pub length-decimal_of_lt : (n : ℕ) → n < 10 → length (decimal n) ≡ 1
length-decimal_of_lt n h = rw (decimal_of_lt n h)

pub length-decimal_of_le : (n : ℕ) → 10 ≤ n → length (decimal n) ≡ length (decimal (n / 10)) + 1
length-decimal_of_le n h = ap length (decimal_of_le n h) ∙ length-append (decimal (n / 10)) (digit (n % 10) ∷ [])

pub length-decimal-pos : (n : ℕ) → 0 < length (decimal n)
length-decimal-pos =
    by_digits (λ (n : ℕ). 0 < length (decimal n)) (λ n m. omega (arith, length-decimal_of_lt n m))
    (λ n m b. omega (arith, length-decimal_of_le n m))

-- the first digit
one-le-decimal : (n : ℕ) → 0 < n → code "1" ≤ get_or (decimal n) 0 0
one-le-decimal =
    by_digits (λ (n : ℕ). 0 < n → code "1" ≤ get_or (decimal n) 0 0) (λ n m h. rw (decimal_of_lt n m) (omega arith))
    (λ n m b h. rw (decimal_of_le n m, get_or-append (decimal (n / 10)) (digit (n % 10) ∷ []) 0 0 (length-decimal-pos (n / 10))) (b (omega arith)))

-- the promise: every byte is a digit, and the first one is not `0` unless the number is 0
pub decimal_digits : (n : ℕ) → Between (code "0") (code "9") (decimal n) × (0 < n → code "1" ≤ get_or (decimal n) 0 0)
decimal_digits n = (decimal_between 48 57 (omega arith) (omega arith) n, one-le-decimal n)

-- ---- reading them back
one-digit : (n : ℕ) (t : List ℕ) → n < 10 → read_from 0 ((48 + n) ∷ t) ≡ read_from n t
one-digit n t h =
    let e : 10 * 0 + n ≡ n = omega arith in
    read_from-cons t 0 (48 + n) n (is_digit_of_le (48 + n) (omega arith) (omega arith)) (omega arith) ∙ ap (λ (v : ℕ). read_from v t) e

read_from-decimal_before : (n : ℕ) (t : List ℕ) → read_from 0 (decimal_before n t) ≡ read_from n t
read_from-decimal_before =
    by_digits (λ (n : ℕ). (t : List ℕ) → read_from 0 (decimal_before n t) ≡ read_from n t)
    (λ n m t. ap (read_from 0) (decimal_before_of_lt n t m) ∙ one-digit n t m)
    (λ n m back t.
    let v : 10 * (n / 10) + n % 10 ≡ n = omega arith in
    ap (read_from 0) (decimal_before_of_le n t m)
    ∙ back ((48 + n % 10) ∷ t)
    ∙ read_from-cons t (n / 10) (48 + n % 10) (n % 10) (is_digit_of_le (48 + n % 10) (omega arith) (omega arith)) (omega arith)
    ∙ ap (λ (v : ℕ). read_from v t) v)

pub read_from-decimal : (n : ℕ) → read_from 0 (decimal n) ≡ Some n
unfolding decimal_before read_from
read_from-decimal n = ap (read_from 0) (sym (append-nil (decimal n))) ∙ read_from-decimal_before n []

-- ---- how many digits there are
-- at most k + 1 digits below 10 ^ (k + 1)
pub length-decimal-le : (k n : ℕ) → n < 10 ^ suc k → length (decimal n) ≤ suc k
length-decimal-le zero n h = omega (arith, length-decimal_of_lt n h)
length-decimal-le (suc k) n h =
    by_test (ltb n 10) (λ e. omega (arith, length-decimal_of_lt n (ltb-true n 10 e)))
    (λ e.
    let p : 10 ^ suc (suc k) ≡ 10 ^ suc k * 10 = pow-suc 10 (suc k) in
    let m : n / 10 < 10 ^ suc k = omega arith in
    omega (arith, length-decimal_of_le n (ltb-false n 10 e), length-decimal-le k (n / 10) m))

-- at least k + 1 digits from 10 ^ k on
le-length-decimal : (k n : ℕ) → 10 ^ k ≤ n → suc k ≤ length (decimal n)
le-length-decimal zero n h = length-decimal-pos n
le-length-decimal (suc k) n h =
    let p : 10 ^ suc k ≡ 10 ^ k * 10 = pow-suc 10 k in
    let o : 1 ≤ 10 ^ k = one-le-pow k 10 (omega arith) in
    let m : 10 ^ k ≤ n / 10 = omega arith in
    omega (arith, length-decimal_of_le n (omega arith), le-length-decimal k (n / 10) m)

-- so exactly k + 1 digits between the two
pub length-decimal_between : (k n : ℕ) → 10 ^ k ≤ n → n < 10 ^ suc k → length (decimal n) ≡ suc k
length-decimal_between k n h i = omega (arith, le-length-decimal k n h, length-decimal-le k n i)

-- n has k more digits than n / 10 ^ k
pub length-decimal-div : (k n : ℕ) → 10 ^ k ≤ n → length (decimal n) ≡ k + length (decimal (n / 10 ^ k))
length-decimal-div zero n h = ap (λ (m : ℕ). length (decimal m)) (sym (div-one n)) ∙ sym (zero-add _)
length-decimal-div (suc k) n h =
    let p : 10 ^ suc k ≡ 10 * 10 ^ k = pow-succ' 10 k in
    let o : 1 ≤ 10 ^ k = one-le-pow k 10 (omega arith) in
    let m : 10 ^ k ≤ n / 10 = omega arith in
    let d : n / 10 / 10 ^ k ≡ n / 10 ^ suc k = div-div-eq-div-mul n 10 (10 ^ k) ∙ ap (λ (x : ℕ). n / x) (sym p) in
    let e : length (decimal (n / 10)) ≡ k + length (decimal (n / 10 ^ suc k)) = rw d at (length-decimal-div k (n / 10) m) in
    omega (arith, length-decimal_of_le n (omega arith), e)
