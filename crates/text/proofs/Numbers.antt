-- Digits and their value. In order: which bytes are digits; one digit more; a byte that is no digit; values that fit; the sign
-- added before or after the test of the width; how large the number of a short text can be; the sign and the digits at the front
-- of a text; an unsigned number by its first byte.
-- Assumes nothing.
use Rattle.std.specs.Prelude.{Err, None, Ok, Option, Result, Some}
use mathlib.Core.Path.{◌≡◌, refl, sym, ap, ◌∙◌}
use mathlib.Core.Bool.{Bool, true, false, cond, ◌&&◌, false≢true}
use mathlib.Core.List.{List, [], ◌∷◌}
use Prim.Native.Nat.{ℕ, zero, suc, ◌+◌, ◌-◌, ◌*◌, ◌^◌, ◌≤◌, ◌<◌}
use native.Mathlib.Omega.{arith}
use native.Mathlib.Nat.{pow-le-pow_right, mul-one, mul_assoc, mul-le-mul_right, not-suc-le-zero, pow-succ'}
use borrow.Author.Tests.{lt-leb, le-leb, leb-true, lt-ltb, le-ltb, leb-false, eq-eqb, ne_eqb, eqb-true}
use lib.Dec.{leb, ltb, eqb, leb-suc-suc}
use lib.IntN.{ℤ, pos, negsuc, neg_ℤ, nat_abs}
use lib.ListN.{length, get_or, take, drop, length-take}
use lib.Signed.{le_z, lt_z}
use Rattle.text.specs.Bytes.{is_digit, is_sign}
use Rattle.text.specs.Places.{run, leading}
use Rattle.text.specs.Number.{read_from, digits_of, unsigned_of, signed_of, fitted, fitted_signed, fit, fit_signed, plus, minus, numeral, AtMost}
use Rattle.std.specs.Result.{result_ok}
use Rattle.text.specs.Held.{signed_by}
use Rattle.text.proofs.Lists.{by_test, both}
use Rattle.text.proofs.Runs.{run-le-run, run_leading}
use Rattle.text.specs.declared.number.NumberError.TheVariants.{TooLarge as TooLargeNumber, NoNumber}
use Rattle.text.specs.declared.number.NumberError.{NumberError}

pub digit_range : (b : ℕ) → is_digit b ≡ true → (48 ≤ b) × (b ≤ 57)
unfolding is_digit
digit_range b e = let p = both (leb 48 b) (leb b 57) e in (leb-true _ _ p.0, leb-true _ _ p.1)

pub is_digit_of_le : (b : ℕ) → 48 ≤ b → b ≤ 57 → is_digit b ≡ true
unfolding is_digit
is_digit_of_le b h k = rw (le-leb 48 b h, le-leb b 57 k)

pub read_from-digit : (v b : ℕ) (w : List ℕ) (n : ℕ) → read_from v (b ∷ w) ≡ Some n → is_digit b ≡ true
unfolding read_from
read_from-digit v b w n = by_test (is_digit b) (λ e h. e) (λ e h. let k : None ≡ Some n = rw e at h in let z : ◌≡◌ {A = ℕ} 0 1 = cc in absurd (omega arith))

-- one digit more
pub read_from-cons : (s : List ℕ) (v b d : ℕ) → is_digit b ≡ true → d ≡ b - 48 → read_from v (b ∷ s) ≡ read_from (10 * v + d) s
unfolding read_from
read_from-cons s v b d h e = rw (h, e)

-- ---- digits at the front of a text
-- a byte after them that is no digit
read_from_of_run-lt : (s : List ℕ) (v : ℕ) → run is_digit s < length s → read_from v s ≡ None
unfolding run read_from
read_from_of_run-lt [] v h = absurd (not-suc-le-zero h)
read_from_of_run-lt (b ∷ s) v h = by_test (is_digit b) (λ e. rw e (read_from_of_run-lt s _ (omega (arith, rw e at h)))) (λ e. rw e)

pub digits_of_of_run-lt : (s : List ℕ) → run is_digit s < length s → digits_of s ≡ None
unfolding digits_of
digits_of_of_run-lt [] h = refl
digits_of_of_run-lt (b ∷ s) h = read_from_of_run-lt (b ∷ s) 0 h

-- ---- values that fit
-- a value above the limit stays above it, whatever digits follow
pub fitted-read_from_of_lt : (s : List ℕ) (limit v : ℕ) → limit < v → fitted limit (read_from v (leading is_digit s)) ≡ (Err TooLargeNumber)
unfolding read_from run
fitted-read_from_of_lt [] limit v h = rw (lt-leb v limit h)
fitted-read_from_of_lt (b ∷ s) limit v h =
    by_test (is_digit b) (λ e. rw (e, e) (fitted-read_from_of_lt s limit (10 * v + (b - 48)) (omega arith))) (λ e. rw (e, lt-leb v limit h))

pub fitted-digits_of_of_TooLarge : (s : List ℕ) (limit : ℕ) → fitted limit (read_from 0 s) ≡ (Err TooLargeNumber) → fitted limit (digits_of s) ≡ (Err TooLargeNumber)
unfolding read_from digits_of
fitted-digits_of_of_TooLarge [] limit h = let k = rw (le-leb 0 limit (omega arith)) at h in let z : ◌≡◌ {A = ℕ} 0 1 = cc in absurd (omega arith)
fitted-digits_of_of_TooLarge (b ∷ s) limit h = h

-- digits from one place up to another, with the value v: no number if the two places are the same
pub fitted-digits_of_of_length : (s : List ℕ) (limit v from end : ℕ) → v ≤ limit → from + length s ≡ end → fitted limit (read_from 0 s) ≡ fitted limit (Some v)
    → fitted limit (digits_of s) ≡ cond (ltb from end) (Ok v) (Err NoNumber)
unfolding digits_of
fitted-digits_of_of_length [] limit v from end f l e = rw (le-ltb from end (omega arith))
fitted-digits_of_of_length (b ∷ s) limit v from end f l e = rw (lt-ltb from end (omega arith)) (rw (le-leb v limit f) at e)

-- a result r of `fit` is at most the limit
pub AtMost_of_fit : (limit k : ℕ) (x r : Option ℕ) → r ≡ fit limit x → limit ≤ k → AtMost k r
unfolding fit
AtMost_of_fit limit k (Some n) r e h = rw e (by_test (leb n limit) (λ y. rw y (omega (arith, leb-true n limit y))) (λ y. rw y tt))
AtMost_of_fit limit k None r e h = rw e tt

pub AtMost_of_fitted : (limit : ℕ) (x : Option ℕ) (r : Result ℕ NumberError) → r ≡ fitted limit x → AtMost limit (result_ok r)
unfolding fit
AtMost_of_fitted limit x r e = AtMost_of_fit limit limit x (result_ok r) (ap result_ok e) (omega arith)

-- the argument of `fit`, if its result is a number
pub fit_value : (limit n : ℕ) (x : Option ℕ) → fit limit x ≡ Some n → x ≡ Some n
unfolding fit
fit_value limit n (Some m) = by_test (leb m limit) (λ e h. rw e at h) (λ e h. let k : None ≡ Some n = rw e at h in let z : ◌≡◌ {A = ℕ} 0 1 = cc in absurd (omega arith))
fit_value limit n None = λ h. h

pub fit_value-le : (limit : ℕ) (x : Option ℕ) {n : ℕ} → fit limit x ≡ Some n → n ≤ limit
fit_value-le limit x {n} e = AtMost_of_fit limit limit x (Some n) (sym e) (omega arith)

pub fit_signed-value : (half : ℕ) (x : Option ℤ) (z : ℤ) → fit_signed half x ≡ Some z → x ≡ Some z
unfolding fit_signed
fit_signed-value half (Some y) z k =
    by_test (le_z (neg_ℤ (pos half)) y && lt_z y (pos half)) (λ t. rw t at k)
    (λ t. let m = rw t at k in let q : ◌≡◌ {A = ℕ} 0 1 = cc in absurd (omega arith))
fit_signed-value half None z k = k

pub fitted_signed-value : (half : ℕ) (x : Option ℤ) (z : ℤ) → fitted_signed half x ≡ Ok z → x ≡ Some z
unfolding fit_signed
fitted_signed-value half x z k = fit_signed-value half x z (ap result_ok k)

-- what fits the smaller limit fits the larger one too
pub fit_fit : (k l : ℕ) (x : Option ℕ) → k ≤ l → fit k (fit l x) ≡ fit k x
unfolding fit
fit_fit k l (Some n) h =
    by_test (leb n l) (λ e. rw e) (λ e. rw (e, lt-leb n k (omega (arith, leb-false n l e))))
fit_fit k l None h = refl

-- ---- the sign
-- at most half - 1 is below half
pub leb-pred : (n half : ℕ) → 0 < half → leb n (half - 1) ≡ ltb n half
leb-pred n half h =
    by_test (leb n (half - 1)) (λ e. e ∙ sym (lt-ltb n half (omega (arith, leb-true n (half - 1) e)))) (λ e. e ∙ sym (le-ltb n half (omega (arith, leb-false n (half - 1) e))))

-- no number from 0 up is below -half
least-le-pos : (half n : ℕ) → le_z (neg_ℤ (pos half)) (pos n) ≡ true
least-le-pos zero n = le-leb 0 n (omega arith)
least-le-pos (suc h) n = refl

-- below half a number fits with `+`, and half itself only with `-`
pub fitted_signed-plus : (half n : ℕ) → fitted_signed half (plus (Some n)) ≡ cond (ltb n half) (Ok (pos n)) (Err TooLargeNumber)
fitted_signed-plus half n = rw (least-le-pos half n)

pub fitted_signed-minus : (half n : ℕ) → 0 < half → fitted_signed half (minus (Some n)) ≡ cond (leb n half) (Ok (neg_ℤ (pos n))) (Err TooLargeNumber)
fitted_signed-minus zero n h = absurd (not-suc-le-zero h)
fitted_signed-minus (suc h) zero p = rw (lt-ltb 0 (suc h) p, le-leb 0 (suc h) (omega arith))
fitted_signed-minus (suc h) (suc n) p = rw (leb-suc-suc) (by_test (leb n h) (λ e. rw e) (λ e. rw e))

-- ---- the number of a short text: with k bytes it is below 10 to the k, with or without a sign
abbrev pub Below : ℕ → Option ℕ → Type 0
Below k (Some n) = n < k
Below k None = Unit {0}

Below-le : {k l : ℕ} (x : Option ℕ) → k ≤ l → Below k x → Below l x
Below-le (Some n) h b = omega arith
Below-le None h b = tt

read_from-below : (s : List ℕ) (v : ℕ) → Below ((v + 1) * 10 ^ length s) (read_from v s)
unfolding read_from
read_from-below [] v = rw (mul-one) (omega arith)
read_from-below (b ∷ s) v =
    by_test (is_digit b)
    (λ e.
    let p : 10 ^ suc (length s) ≡ 10 * 10 ^ length s = pow-succ' 10 (length s) in
    let d = digit_range b e in
    let h : 10 * v + (b - 48) + 1 ≤ (v + 1) * 10 = omega arith in
    let m : (10 * v + (b - 48) + 1) * 10 ^ length s ≤ (v + 1) * 10 * 10 ^ length s = mul-le-mul_right (10 ^ length s) h in
    let a : (v + 1) * 10 * 10 ^ length s ≡ (v + 1) * 10 ^ suc (length s) = mul_assoc (v + 1) 10 (10 ^ length s) ∙ ap (λ (x : ℕ). (v + 1) * x) (sym p) in
    rw e (Below-le (read_from (10 * v + (b - 48)) s) (omega arith) (read_from-below s (10 * v + (b - 48)))))
    (λ e. rw e tt)

digits_of-below : (s : List ℕ) → Below (10 ^ length s) (digits_of s)
unfolding digits_of
digits_of-below [] = tt
digits_of-below (b ∷ s) = Below-le (read_from 0 (b ∷ s)) (omega arith) (read_from-below (b ∷ s) 0)

pub unsigned_of-below : (s : List ℕ) → Below (10 ^ length s) (unsigned_of s)
unfolding unsigned_of
unsigned_of-below [] = tt
unsigned_of-below (b ∷ s) =
    by_test (eqb b 43) (λ e. rw e (Below-le (digits_of s) (omega (arith, pow-succ' 10 (length s))) (digits_of-below s))) (λ e. rw e (digits_of-below (b ∷ s)))

-- so it fits any width that holds numbers of that size
fit_of_length : (limit : ℕ) (s : List ℕ) → 10 ^ length s ≤ limit + 1 → fit limit (unsigned_of s) ≡ unsigned_of s
unfolding fit
fit_of_length limit s h = go (unsigned_of s) (unsigned_of-below s)
  where
    go : (x : Option ℕ) → Below (10 ^ length s) x → fit limit x ≡ x
    go (Some n) b = rw (le-leb n limit (omega arith))
    go None b = refl

abbrev pub Short : ℕ → Option ℤ → Type 0
Short k (Some z) = nat_abs z < k
Short k None = Unit {0}

plus_short : (k : ℕ) (x : Option ℕ) → Below k x → Short k (plus x)
plus_short k (Some n) b = b
plus_short k None b = tt

minus_short : (k : ℕ) (x : Option ℕ) → Below k x → Short k (minus x)
minus_short k (Some zero) b = b
minus_short k (Some (suc n)) b = b
minus_short k None b = tt

pub signed_of-short : (s : List ℕ) → Short (10 ^ length s) (signed_of s)
unfolding signed_of
signed_of-short [] = tt
signed_of-short (b ∷ s) =
    by_test (eqb b 45)
    (λ e. rw e (minus_short _ (digits_of s) (Below-le (digits_of s) (omega (arith, pow-succ' 10 (length s))) (digits_of-below s))))
    (λ e. rw e (plus_short _ (unsigned_of (b ∷ s)) (unsigned_of-below (b ∷ s))))

pub fit_signed_of_length : (half : ℕ) (s : List ℕ) → 10 ^ length s ≤ half → fit_signed half (signed_of s) ≡ signed_of s
unfolding fit_signed
fit_signed_of_length half s h = go half (signed_of s) h (signed_of-short s)
  where
    go : (half : ℕ) (x : Option ℤ) → 10 ^ length s ≤ half → Short (10 ^ length s) x → fit_signed half x ≡ x
    go zero (Some z) k b = absurd (omega arith)
    go (suc m) (Some (pos n)) k b = rw (lt-ltb n (suc m) (omega arith))
    go (suc m) (Some (negsuc n)) k b = rw (le-leb n m (omega arith))
    go half None k b = refl

-- the number of two bytes is below 100 in size, so it fits any width that holds 100
pub pow-length-take : (s : List ℕ) → 10 ^ length (take 2 s) ≤ 100
pow-length-take s = let h : length (take 2 s) ≤ 2 = omega (arith, length-take 2 s) in pow-le-pow_right {n = 10} (omega arith) h

pub fit_signed-take : (half : ℕ) (s : List ℕ) → 100 ≤ half → fit_signed half (signed_of (take 2 s)) ≡ signed_of (take 2 s)
fit_signed-take half s h = fit_signed_of_length half (take 2 s) (omega (arith, pow-length-take s))

pub fit-take : (limit : ℕ) (s : List ℕ) → 99 ≤ limit → fit limit (unsigned_of (take 2 s)) ≡ unsigned_of (take 2 s)
fit-take limit s h = fit_of_length limit (take 2 s) (omega (arith, pow-length-take s))

-- ---- the sign and the digits at the front of a text
-- digits alone
signed_of-leading : (s : List ℕ) → signed_of (leading is_digit s) ≡ plus (digits_of (leading is_digit s))
unfolding signed_of unsigned_of digits_of run
signed_of-leading [] = refl
signed_of-leading (b ∷ s) =
    by_test (is_digit b)
    (λ e.
    let d = digit_range b e in
    rw (e, ne_eqb b 45 (λ k. omega arith), ne_eqb b 43 (λ k. omega arith)))
    (λ e. rw e)

-- digits that were read up to half, with their sign
module _ (half : ℕ) (h : 0 < half) where
  signed_by-minus : (x : Option ℕ) → signed_by half true (fitted half x) ≡ fitted_signed half (minus x)
  signed_by-minus (Some n) =
      by_test (leb n half) (λ e. rw e) (λ e. rw e (sym (fitted_signed-minus half n h ∙ rw e)))
  signed_by-minus None = refl

  signed_by-plus : (x : Option ℕ) → signed_by half false (fitted half x) ≡ fitted_signed half (plus x)
  signed_by-plus (Some n) =
      by_test (leb n half) (λ e. rw e) (λ e. rw e (sym (fitted_signed-plus half n ∙ rw (le-ltb n half (omega (arith, leb-false n half e))))))
  signed_by-plus None = refl

  pub signed_by-numeral : (b : ℕ) (s : List ℕ) (n : Result ℕ NumberError) → n ≡ fitted half (digits_of (leading is_digit (cond (is_sign b) s (b ∷ s))))
      → signed_by half (eqb b 45) n ≡ fitted_signed half (signed_of (take (numeral (b ∷ s)) (b ∷ s)))
  unfolding numeral is_sign signed_of unsigned_of
  signed_by-numeral b s n e =
      by_test (eqb b 45) (λ k. rw (eqb-true b 45 k) (ap (signed_by half true) (rw (eqb-true b 45 k) at e) ∙ signed_by-minus (digits_of (leading is_digit s))))
      (λ k.
      by_test (eqb b 43) (λ j. rw (eqb-true b 43 j) (ap (signed_by half false) (rw (eqb-true b 43 j) at e) ∙ signed_by-plus (digits_of (leading is_digit s))))
      (λ j. rw (k, j) (ap (signed_by half false) (rw (j, k) at e) ∙ signed_by-plus (digits_of (leading is_digit (b ∷ s))) ∙ sym (ap (fitted_signed half) (signed_of-leading (b ∷ s))))))

-- ---- a text with other bytes after the sign and the digits is no number
pub signed_of_of_numeral-lt : (s : List ℕ) → numeral s < length s → signed_of s ≡ None
unfolding numeral signed_of unsigned_of is_sign
signed_of_of_numeral-lt [] h = refl
signed_of_of_numeral-lt (b ∷ s) h =
    by_test (eqb b 43) (λ k. rw (eqb-true b 43 k, digits_of_of_run-lt s (behind (rw k at h))))
    (λ k. by_test (eqb b 45) (λ e. rw (e, digits_of_of_run-lt s (behind (rw (k, e) at h)))) (λ e. rw (e, k, digits_of_of_run-lt (b ∷ s) (rw (k, e) at h))))
  where
    behind : suc (run is_digit s) < suc (length s) → run is_digit s < length s
    behind k = omega arith

-- without a sign they are the leading digits
pub numeral_of_digits : (s : List ℕ) → is_sign (get_or s 0 0) ≡ false → numeral s ≡ run is_digit s
unfolding numeral run
numeral_of_digits [] e = refl
numeral_of_digits (b ∷ s) e = rw e

-- ---- sign and digits are within any run of a class that has signs and digits
module _ (q : ℕ → Bool) (signs : (b : ℕ) → is_sign b ≡ true → q b ≡ true) (digits : (b : ℕ) → is_digit b ≡ true → q b ≡ true) where
  pub numeral-le-run : (s : List ℕ) → numeral s ≤ run q s
  unfolding numeral run
  numeral-le-run [] = omega arith
  numeral-le-run (b ∷ s) =
      by_test (is_sign b) (λ e. rw (e, signs b e) (omega (arith, run-le-run is_digit q digits s))) (λ e. rw e (run-le-run is_digit q digits (b ∷ s)))

  pub is_sign-leading : (s : List ℕ) → is_sign (get_or (leading q s) 0 0) ≡ is_sign (get_or s 0 0)
  unfolding run is_sign
  is_sign-leading [] = refl
  is_sign-leading (b ∷ s) =
      by_test (q b) (λ e. rw e) (λ e. rw e (by_test (is_sign b) (λ d. absurd (false≢true (sym e ∙ signs b d))) (λ d. sym d)))

  pub numeral_leading : (s : List ℕ) → numeral (leading q s) ≡ numeral s
  unfolding numeral run
  numeral_leading [] = refl
  numeral_leading (b ∷ s) =
      by_test (is_sign b) (λ e. rw (signs b e, e) (ap suc (run_leading is_digit q digits s)))
      (λ e. numeral_of_digits (leading q (b ∷ s)) (is_sign-leading (b ∷ s) ∙ e) ∙ run_leading is_digit q digits (b ∷ s) ∙ sym (numeral_of_digits (b ∷ s) e))

-- an unsigned number whose first byte is `+`: the digits after it
pub unsigned_of_plus : (s : List ℕ) → 0 < length s → get_or s 0 0 ≡ 43 → unsigned_of s ≡ digits_of (drop 1 s)
unfolding unsigned_of
unsigned_of_plus [] h e = absurd (not-suc-le-zero h)
unsigned_of_plus (b ∷ s) h e = rw (eq-eqb b 43 e)

-- its first byte is another: digits from there on
pub unsigned_of_other : (s : List ℕ) → 0 < length s → (get_or s 0 0 ≡ 43 → ⊥) → unsigned_of s ≡ digits_of (drop 0 s)
unfolding unsigned_of
unsigned_of_other [] h n = absurd (not-suc-le-zero h)
unsigned_of_other (b ∷ s) h n = rw (ne_eqb b 43 n)
