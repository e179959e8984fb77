-- Numbers as the header writer prints them (RULES 13.6). In order: texts that are the same; digits of the same value; a text that
-- is as long as the plain decimal of its number is that decimal, so that only lengths are compared; the same at the front of a
-- longer text; what is printed is read, and nothing else.
-- Assumes nothing.
use Rattle.std.specs.Prelude.{None, Option, Some}
use mathlib.Core.Path.{◌≡◌, refl, sym, ap, ◌∙◌}
use mathlib.Core.Bool.{true, ◌&&◌}
use mathlib.Core.List.{List, [], ◌∷◌}
use Prim.Native.Char.{code}
use Prim.Native.Nat.{ℕ, zero, suc, ◌+◌, ◌-◌, ◌*◌, ◌^◌, ◌≤◌, ◌<◌}
use native.Mathlib.Omega.{arith}
use borrow.Author.Tests.{eqb-true, eqb-false, eq-eqb}
use lib.Dec.{eqb}
use lib.IntN.{ℤ, pos, neg_ℤ}
use lib.ListN.{length, take}
use lib.Seq.{length-take-le}
use lib.Signed.{le_z, lt_z}
use Rattle.text.specs.Bytes.{same}
use Rattle.text.specs.Decimal.{decimal, signed}
use Rattle.text.specs.Number.{read_from, digits_of, unsigned_of, signed_of, fit_signed, plus, minus, numeral, LeadsWith}
use Rattle.std.specs.Result.{result_ok}
use Rattle.text.specs.declared.number.LeadingInteger.{LeadingInteger}
use Rattle.text.proofs.Lists.{by_test, both, same_of_length}
use Rattle.text.proofs.Numbers.{digit_range, read_from-digit, unsigned_of-below, fitted_signed-value, numeral-le-run}
use Rattle.text.proofs.Runs.{run-le-length}
use Rattle.text.proofs.Digits.{no_plus}
use Rattle.text.proofs.Decimals.{length-decimal-pos, length-decimal_of_lt, length-decimal-le, read_from-decimal}
use Rattle.text.proofs.Signed.{tests_of_In, fitted_signed-signed}
use Rattle.header.specs.Theorems.{Seconds64}
use Rattle.stamps.specs.Stamps.{printed, printed_as}
use Rattle.stamps.specs.Held.{if_width, OpensPrinted}

-- ---- texts that are the same
pub same_self : (s : List ℕ) → same s s ≡ true
unfolding same
same_self [] = refl
same_self (b ∷ s) = rw (eq-eqb b b refl, same_self s)

pub eq_of_same : (s t : List ℕ) → same s t ≡ true → s ≡ t
unfolding same
eq_of_same [] [] e = refl
eq_of_same [] (y ∷ t) e = let z : ◌≡◌ {A = ℕ} 0 1 = cc in absurd (omega arith)
eq_of_same (x ∷ s) [] e = let z : ◌≡◌ {A = ℕ} 0 1 = cc in absurd (omega arith)
eq_of_same (x ∷ s) (y ∷ t) e = let p = both (eqb x y) (same s t) e in λ i. eqb-true x y p.0 i ∷ eq_of_same s t p.1 i

-- ---- digits of the same value
-- in texts of the same length they are the same digits, behind the same value
read_from-unique : (s t : List ℕ) (u v n : ℕ) → length s ≡ length t → read_from u s ≡ Some n → read_from v t ≡ Some n → (u ≡ v) × (s ≡ t)
unfolding read_from
read_from-unique [] [] u v n l d e = (cc, refl)
read_from-unique [] (y ∷ t) u v n l d e = absurd (omega arith)
read_from-unique (x ∷ s) [] u v n l d e = absurd (omega arith)
read_from-unique (x ∷ s) (y ∷ t) u v n l d e =
    let a = read_from-digit u x s n d in
    let b = read_from-digit v y t n e in
    let p = read_from-unique s t (10 * u + (x - 48)) (10 * v + (y - 48)) n (omega arith) (rw a at d) (rw b at e) in
    let k = digit_range x a in
    let m = digit_range y b in
    let q : u ≡ v = omega (arith, p.0) in
    let r : x ≡ y = omega (arith, p.0) in
    (q, λ i. r i ∷ p.1 i)

-- the digits of n are at least as many as its plain decimal has
length-decimal-le-digits : (w : List ℕ) (n : ℕ) → digits_of w ≡ Some n → length (decimal n) ≤ length w
unfolding digits_of unsigned_of
length-decimal-le-digits [] n e = let z : ◌≡◌ {A = ℕ} 0 1 = cc in absurd (omega arith)
length-decimal-le-digits (b ∷ w) n e =
    let u : unsigned_of (b ∷ w) ≡ Some n = rw (no_plus b (read_from-digit 0 b w n e)) e in
    let h : n < 10 ^ suc (length w) = rw u at (unsigned_of-below (b ∷ w)) in
    length-decimal-le (length w) n h

-- and if they are as many, they are its plain decimal
eq-decimal : (w : List ℕ) (n : ℕ) → digits_of w ≡ Some n → length w ≡ length (decimal n) → w ≡ decimal n
unfolding digits_of
eq-decimal [] n e l = absurd (omega (arith, length-decimal-pos n))
eq-decimal (b ∷ w) n e l = (read_from-unique (b ∷ w) (decimal n) 0 0 n l e (read_from-decimal n)).1

-- ---- a number that is as long as its plain decimal
-- a minus and digits: 0 has no minus
eq-signed_of_minus : (s : List ℕ) (n : ℕ) → digits_of s ≡ Some n → suc (length s) ≡ length (signed (neg_ℤ (pos n))) → code "-" ∷ s ≡ signed (neg_ℤ (pos n))
unfolding signed
eq-signed_of_minus s zero e l = absurd (omega (arith, length-decimal-le-digits s 0 e, length-decimal-pos 0, length-decimal_of_lt 0 (omega arith)))
eq-signed_of_minus s (suc n) e l = ap (λ (t : List ℕ). code "-" ∷ t) (eq-decimal s (suc n) e (omega arith))

-- digits without a sign: with `+` there is one byte more than in the plain decimal
eq-signed_of_plus : (b : ℕ) (s : List ℕ) (n : ℕ) → unsigned_of (b ∷ s) ≡ Some n → suc (length s) ≡ length (signed (pos n)) → b ∷ s ≡ signed (pos n)
unfolding signed unsigned_of
eq-signed_of_plus b s n e l =
    by_test (eqb b (code "+")) (λ k. absurd (omega (arith, length-decimal-le-digits s n (rw k at e)))) (λ k. eq-decimal (b ∷ s) n (rw k at e) l)

eq-signed : (s : List ℕ) (z : ℤ) → signed_of s ≡ Some z → length s ≡ length (signed z) → s ≡ signed z
unfolding signed_of
eq-signed [] z e l = let q : ◌≡◌ {A = ℕ} 0 1 = cc in absurd (omega arith)
eq-signed (b ∷ s) z e l =
    by_test (eqb b (code "-")) (λ k. rw (eqb-true b (code "-") k) (minused (digits_of s) refl (rw k at e))) (λ k. plussed (unsigned_of (b ∷ s)) refl (rw k at e))
  where
    minused : (x : Option ℕ) → digits_of s ≡ x → minus x ≡ Some z → code "-" ∷ s ≡ signed z
    minused (Some n) d k = let q : neg_ℤ (pos n) ≡ z = cc in rw (← q) (eq-signed_of_minus s n d (rw (← q) at l))
    minused None d k = let q : ◌≡◌ {A = ℕ} 0 1 = cc in absurd (omega arith)

    plussed : (x : Option ℕ) → unsigned_of (b ∷ s) ≡ x → plus x ≡ Some z → b ∷ s ≡ signed z
    plussed (Some n) d k = let q : pos n ≡ z = cc in rw (← q) (eq-signed_of_plus b s n d (rw (← q) at l))
    plussed None d k = let q : ◌≡◌ {A = ℕ} 0 1 = cc in absurd (omega arith)

-- so a number is printed plainly exactly if it has as many bytes as its plain decimal
same_signed : (s : List ℕ) (z : ℤ) → signed_of s ≡ Some z → same s (signed z) ≡ eqb (length (signed z)) (length s)
same_signed s z e =
    by_test (eqb (length (signed z)) (length s))
    (λ k. rw k (ap (same s) (sym (eq-signed s z e (sym (eqb-true (length (signed z)) (length s) k)))) ∙ same_self s))
    (λ k. rw k (same_of_length s (signed z) (λ l. eqb-false (length (signed z)) (length s) k (sym l))))

fit_signed-printed : (half : ℕ) (s : List ℕ) → fit_signed half (printed s) ≡ if_width (fit_signed half (signed_of s)) (length s)
unfolding printed fit_signed
fit_signed-printed half s = go (signed_of s) refl
  where
    go : (x : Option ℤ) → signed_of s ≡ x → fit_signed half (printed_as x s) ≡ if_width (fit_signed half x) (length s)
    go (Some z) e =
        by_test (eqb (length (signed z)) (length s))
        (λ k. rw (same_signed s z e, k) (by_test (le_z (neg_ℤ (pos half)) z && lt_z z (pos half)) (λ f. rw (f, k)) (λ f. rw f)))
        (λ k. rw (same_signed s z e, k) (by_test (le_z (neg_ℤ (pos half)) z && lt_z z (pos half)) (λ f. rw (f, k)) (λ f. rw f)))
    go None e = refl

-- ---- at the front of a longer text
pub numeral-le-length : (s : List ℕ) → numeral s ≤ length s
numeral-le-length s =
    omega (arith, numeral-le-run (λ b. true) (λ b e. refl) (λ b e. refl) s, run-le-length (λ b. true) s)

pub OpensPrinted_of_width : (half : ℕ) (s : List ℕ) (at : ℕ) (r : LeadingInteger) (n : Option ℤ) → LeadsWith half s at r → n ≡ if_width (result_ok r.number) (r.end - at)
    → OpensPrinted half s at (record { number = n; end = r.end })
unfolding fit_signed
OpensPrinted_of_width half s at r n l e =
    let w = take (numeral s) s in
    let k : r.end - at ≡ length w = omega (arith, l.end_is, length-take-le (numeral s) s (numeral-le-length s)) in
    record {
      number_is = e ∙ (λ i. if_width (result_ok (l.number_is i)) (k i)) ∙ sym (fit_signed-printed half w);
      end_is = l.end_is;
    }

-- ---- what is printed is read, and nothing else
pub printed_signed : (z : ℤ) → Seconds64 z → printed (signed z) ≡ Some z
unfolding printed
printed_signed z r = rw (fitted_signed-value (2 ^ 63) (signed_of (signed z)) z (fitted_signed-signed z r), same_self (signed z))

-- in 64 bits
pub fit_signed-printed_signed : (z : ℤ) → Seconds64 z → fit_signed (2 ^ 63) (printed (signed z)) ≡ Some z
unfolding fit_signed
fit_signed-printed_signed z r = rw (printed_signed z r, tests_of_In (2 ^ 63) z r)

printed_as-bytes : (x : Option ℤ) (s : List ℕ) (z : ℤ) → printed_as x s ≡ Some z → s ≡ signed z
printed_as-bytes (Some y) s z e =
    by_test (same s (signed y)) (λ k. let q : y ≡ z = cc (rw k at e) in eq_of_same s (signed y) k ∙ ap signed q)
    (λ k. let m = rw k at e in let q : ◌≡◌ {A = ℕ} 0 1 = cc in absurd (omega arith))
printed_as-bytes None s z e = let q : ◌≡◌ {A = ℕ} 0 1 = cc in absurd (omega arith)

pub printed_bytes : (s : List ℕ) (z : ℤ) → printed s ≡ Some z → s ≡ signed z
unfolding printed
printed_bytes s z e = printed_as-bytes (signed_of s) s z e
