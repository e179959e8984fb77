-- `text::decimal::count_digits` meets its contract. The estimate for m bits is held against the powers of ten in one computed pass over
-- all counts of bits (`right-up-to-64`), and that gives the digits of every number (`settled`).
use mathlib.Core.Bool.{Bool, true, ◌&&◌}
use mathlib.Core.Path.{◌≡◌, refl, sym, ap, ◌∙◌}
use Prim.Native.Nat.{ℕ, zero, suc, ◌+◌, ◌-◌, ◌*◌, ◌/◌, ◌%◌, ◌^◌, ◌≤◌, ◌<◌}
use native.Mathlib.Nat.{pow-suc, not-suc-le-zero}
use native.Mathlib.Omega.{arith}
use borrow.Author.Tests.{ltb-true, ltb-false}
use lib.Bits.{bit_or, or_step, or_zero_r, or_lt}
use lib.Count.{count_leading_zeros, leading_length}
use lib.Dec.{T, leb, ltb, leb→le}
use lib.ListN.{length}
use mir.Facts.{and_yes}
use Rattle.text.specs.Decimal.{decimal}
use Rattle.text.proofs.Decimals.{length-decimal_of_lt, length-decimal_of_le, length-decimal_between, length-decimal-pos}
use Rattle.text.proofs.Lists.{by_test}
use Rattle.text.proofs.decimal.count_digits.Goals as goal

-- ---- the estimate
abbrev estimate : ℕ → ℕ
estimate m = m * 77 / 256

-- numbers of m bits lie from 2 ^ m / 2 to 2 ^ m: ten times the lower end reaches 10 ^ estimate m, and the upper end does not pass the
-- next power
right : ℕ → Bool
right m = leb (10 ^ estimate m) (5 * 2 ^ m) && leb (2 ^ m) (10 ^ suc (estimate m))

-- a test at every number below n
every_below : (ℕ → Bool) → ℕ → Bool
every_below f zero = true
every_below f (suc n) = f n && every_below f n

every_below-at : (f : ℕ → Bool) (n : ℕ) → T (every_below f n) → (m : ℕ) → m < n → T (f m)
unfolding every_below
every_below-at f zero t m h = absurd (not-suc-le-zero h)
every_below-at f (suc n) t m h =
    let p = and_yes (f n) (every_below f n) t in
    by_test (ltb m n) (λ e. every_below-at f n p.1 m (ltb-true m n e))
    (λ e.
    let q : m ≡ n = omega (arith, ltb-false m n e) in
    rw q p.0)

right-up-to-64 : T (every_below right 65)
unfolding every_below right
right-up-to-64 = tt

right-at : (m : ℕ) → m ≤ 64 → (10 ^ estimate m ≤ 5 * 2 ^ m) × (2 ^ m ≤ 10 ^ suc (estimate m))
unfolding right
right-at m h =
    let t = and_yes (leb (10 ^ estimate m) (5 * 2 ^ m)) (leb (2 ^ m) (10 ^ suc (estimate m))) (every_below-at right 65 right-up-to-64 m (omega arith)) in
    (leb→le (10 ^ estimate m) (5 * 2 ^ m) t.0, leb→le (2 ^ m) (10 ^ suc (estimate m)) t.1)

-- ---- the comparison settles it, for a number v of m bits
module _ (v m : ℕ) (b : m ≤ 64) (l : v < 2 ^ m) (u : 2 ^ m ≤ 2 * v + 1) where
  as-estimated : (e : ℕ) → e ≡ estimate m → 0 < v → v < 10 ^ e → e ≡ length (decimal v)
  as-estimated zero q p h = absurd (omega arith)
  as-estimated (suc k) q p h =
      let t : 10 ^ suc k ≤ 5 * 2 ^ m = rw q (right-at m b).0 in
      sym (length-decimal_between k v (omega (arith, pow-suc 10 k)) h)

  one_more : 10 ^ estimate m ≤ v → estimate m + 1 ≡ length (decimal v)
  one_more h = omega (arith, length-decimal_between (estimate m) v h (omega (arith, (right-at m b).1)))

abbrev bits : ℕ → ℕ
bits v = 64 - count_leading_zeros 64 v

settled : (v : ℕ) → 0 < v → v < 2 ^ 64 → (v < 10 ^ estimate (bits v) → estimate (bits v) ≡ length (decimal v)) × (10 ^ estimate (bits v) ≤ v → estimate (bits v) + 1 ≡ length (decimal v))
settled v p h =
    let w = leading_length 64 v h in
    let e : bits v ≡ w.0 = omega (arith, w.1) in
    let b : (v < 2 ^ bits v) × (2 ^ bits v ≤ 2 * v + 1) = rw e (w.2, w.3) in (
      as-estimated v (bits v) (omega arith) b.0 b.1 (estimate (bits v)) refl p,
      one_more v (bits v) (omega arith) b.0 b.1,
    )

-- ---- n with its lowest bit set
lowest_set : (n : ℕ) → bit_or n 1 ≡ n / 2 * 2 + 1
lowest_set n =
    let r : n % 2 ≤ 1 = omega arith in
    or_step n 1 ∙ rw (or_zero_r (n / 2)) (omega arith)

same_digits : (n v : ℕ) → v ≡ n / 2 * 2 + 1 → length (decimal v) ≡ length (decimal n)
same_digits n v e =
    by_test (ltb n 10)
    (λ t.
    let h : n < 10 = ltb-true n 10 t in
    omega (arith, length-decimal_of_lt n h, length-decimal_of_lt v (omega arith)))
    (λ t.
    let h : 10 ≤ n = ltb-false n 10 t in
    let q : v / 10 ≡ n / 10 = omega arith in
    length-decimal_of_le v (omega arith) ∙ ap (λ (m : ℕ). length (decimal m) + 1) q ∙ sym (length-decimal_of_le n h))

-- ---- the code
digits : (n : ℕ) → n < 2 ^ 64 → (bit_or n 1 < 10 ^ estimate (bits (bit_or n 1)) → estimate (bits (bit_or n 1)) ≡ length (decimal n)) × (10 ^ estimate (bits (bit_or n 1)) ≤ bit_or n 1 → estimate (bits (bit_or n 1)) + 1 ≡ length (decimal n))
digits n h =
    let e = lowest_set n in
    let s = settled (bit_or n 1) (omega (arith, e)) (or_lt 64 n 1 h (omega arith)) in
    let d = same_digits n (bit_or n 1) e in
    (λ l. s.0 l ∙ d, λ l. s.1 l ∙ d)

pub returns-then-v-pow10 : goal.returns-then-v-pow10
returns-then-v-pow10 c =
    let d = (digits c.args.n c.ranges.n.fits).0 (omega arith) in
    (d, omega (arith, length-decimal-pos c.args.n), omega arith)

pub returns-else-v-pow10 : goal.returns-else-v-pow10
returns-else-v-pow10 c =
    ((digits c.args.n c.ranges.n.fits).1 (omega arith), omega arith, omega arith)
