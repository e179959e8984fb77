-- ASCII texts, and the plain bytes of a word. In order: which bytes are not white space; what a plain byte is; texts that are
-- ASCII; a byte that a text does not hold; in an ASCII text without `:`, the plain bytes are those that are not white space.
-- Assumes nothing.
use mathlib.Core.Path.{◌≡◌, refl, ap, ◌∙◌}
use mathlib.Core.Bool.{true, false, not, ◌&&◌, and-false}
use mathlib.Core.List.{List, [], ◌∷◌, ◌++◌}
use Prim.Native.Nat.{ℕ, zero, suc, ◌+◌, ◌≤◌, ◌<◌}
use native.Mathlib.Omega.{arith}
use borrow.Author.Tests.{lt-ltb, eqb-true, ne_eqb, lt-leb, not-true}
use lib.Dec.{leb, ltb, eqb}
use lib.ListN.{length, drop, get_or, drop_of_length-le}
use Rattle.text.specs.Bytes.{is_space, is_digit, is_sign, is_plain, ascii}
use Rattle.text.specs.Places.{run, no, past, has}
use Rattle.text.proofs.Lists.{by_test, both, drop-cons-add-one}
use Rattle.text.proofs.Runs.{has_cons}
use Rattle.text.proofs.Numbers.{digit_range}
use Rattle.text.proofs.Digits.{space_range}
use Rattle.text.proofs.Texts.{not_has_of_cons}

-- ---- which bytes are not white space
pub is_space_of_lt : (b : ℕ) → 32 < b → is_space b ≡ false
unfolding is_space
is_space_of_lt b h = rw (lt-leb b 13 (omega arith), and-false (leb 9 b), ne_eqb b 32 (λ e. omega arith))

sign_between : (b : ℕ) → is_sign b ≡ true → (33 ≤ b) × (b ≤ 57)
unfolding is_sign
sign_between b e =
    by_test (eqb b 43) (λ k. let q = eqb-true b 43 k in (omega arith, omega arith)) (λ k. let q = eqb-true b 45 (rw k at e) in (omega arith, omega arith))

pub no_space_of_is_sign : (b : ℕ) → is_sign b ≡ true → no is_space b ≡ true
no_space_of_is_sign b e = rw (is_space_of_lt b (sign_between b e).0)

pub no_space_of_is_digit : (b : ℕ) → is_digit b ≡ true → no is_space b ≡ true
no_space_of_is_digit b e = rw (is_space_of_lt b (omega (arith, (digit_range b e).0)))

-- ---- what a plain byte is
pub record Plain (b : ℕ) : Type 0 where
  pub no_space : no is_space b ≡ true
  pub no_colon : eqb b 58 ≡ false
  pub low : ltb b 128 ≡ true

pub plain : (b : ℕ) → is_plain b ≡ true → Plain b
unfolding is_plain
plain b e =
    let p = both (no is_space b && not (eqb b 58)) (ltb b 128) e in
    let q = both (no is_space b) (not (eqb b 58)) p.0 in
    record { no_space = q.0; no_colon = not-true (eqb b 58) q.1; low = p.1 }

is_plain_of_between : (b : ℕ) → 33 ≤ b → b ≤ 57 → is_plain b ≡ true
unfolding is_plain
is_plain_of_between b h k = rw (is_space_of_lt b (omega arith), ne_eqb b 58 (λ e. omega arith), lt-ltb b 128 (omega arith))

pub is_plain_of_is_sign : (b : ℕ) → is_sign b ≡ true → is_plain b ≡ true
is_plain_of_is_sign b e = let r = sign_between b e in is_plain_of_between b r.0 r.1

pub is_plain_of_is_digit : (b : ℕ) → is_digit b ≡ true → is_plain b ≡ true
is_plain_of_is_digit b e = let r = digit_range b e in is_plain_of_between b (omega arith) r.1

-- ---- texts that are ASCII
pub ascii_cons : (b : ℕ) (s : List ℕ) → ltb b 128 ≡ true → ascii (b ∷ s) ≡ ascii s
unfolding ascii
ascii_cons b s e = rw e

pub ascii_space : (b : ℕ) (s : List ℕ) → is_space b ≡ true → ascii (b ∷ s) ≡ ascii s
ascii_space b s e = ascii_cons b s (lt-ltb b 128 (omega (arith, space_range b e)))

pub ascii_append : (a b : List ℕ) → ascii (a ++ b) ≡ (ascii a && ascii b)
unfolding ascii
ascii_append [] b = refl
ascii_append (x ∷ a) b = by_test (ltb x 128) (λ e. rw e (ascii_append a b)) (λ e. rw e)

ascii_drop : (s : List ℕ) (i : ℕ) → ascii s ≡ true → ascii (drop i s) ≡ true
unfolding ascii
ascii_drop s zero e = e
ascii_drop [] (suc i) e = e
ascii_drop (b ∷ s) (suc i) e = ascii_drop s i (both (ltb b 128) (ascii s) e).1

-- at a place that a loop has reached
module _ (s : List ℕ) (i : ℕ) where
  pub ascii-drop-cons : i < length s → ascii (drop i s) ≡ (ltb (get_or s i 0) 128 && ascii (drop (i + 1) s))
  unfolding ascii
  ascii-drop-cons h = rw (drop-cons-add-one s i h)

  pub ascii-drop-nil : length s ≤ i → ascii (drop i s) ≡ true
  unfolding ascii
  ascii-drop-nil h = rw (drop_of_length-le s h)

-- ---- a byte that a text does not hold
module _ (c : ℕ) where
  pub has_cons_of_ne : (b : ℕ) (s : List ℕ) → eqb b c ≡ false → has c (b ∷ s) ≡ has c s
  has_cons_of_ne b s e = has_cons c b s ∙ rw e

  pub has_space : 32 < c → (b : ℕ) (s : List ℕ) → is_space b ≡ true → has c (b ∷ s) ≡ has c s
  has_space h b s e = has_cons_of_ne b s (ne_eqb b c (λ k. omega (arith, space_range b e)))

  pub has_drop : (s : List ℕ) (i : ℕ) → has c s ≡ false → has c (drop i s) ≡ false
  has_drop s zero e = e
  has_drop [] (suc i) e = e
  has_drop (b ∷ s) (suc i) e = has_drop s i (not_has_of_cons c b s e).1

-- ---- an ASCII text without `:`
is_plain_is : (b : ℕ) → eqb b 58 ≡ false → ltb b 128 ≡ true → is_plain b ≡ no is_space b
unfolding is_plain
is_plain_is b e k = rw (e, k) (by_test (is_space b) (λ d. rw d) (λ d. rw d))

run-is_plain : (s : List ℕ) → ascii s ≡ true → has 58 s ≡ false → run is_plain s ≡ run (no is_space) s
unfolding run ascii
run-is_plain [] a h = refl
run-is_plain (b ∷ s) a h =
    let l = both (ltb b 128) (ascii s) a in
    let k = not_has_of_cons 58 b s h in
    rw (is_plain_is b k.0 l.0, run-is_plain s l.1 k.1)

pub past-is_plain : (s : List ℕ) → ascii s ≡ true → has 58 s ≡ false → (i : ℕ) → past is_plain s i ≡ past (no is_space) s i
unfolding past
past-is_plain s a h i = ap (λ (n : ℕ). i + n) (run-is_plain (drop i s) (ascii_drop s i a) (has_drop 58 s i h))
