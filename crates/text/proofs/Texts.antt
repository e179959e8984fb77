-- Texts whose bytes are known. In order: a byte that a text does not hold; that none of its words holds; a text whose bytes are in
-- a range, as those of a number are; a number that is digits, or a minus and digits.
-- Assumes nothing.
use Rattle.std.specs.Prelude.{None, Option, Some}
use mathlib.Core.Path.{◌≡◌, refl, sym, ap, ◌∙◌}
use mathlib.Core.Bool.{Bool, true, false, ◌||◌, false≢true}
use mathlib.Core.List.{List, [], ◌∷◌, ◌++◌}
use Prim.Native.Nat.{ℕ, ◌≤◌, ◌<◌}
use native.Mathlib.Omega.{arith}
use native.Mathlib.Nat.{not-suc-le-zero}
use borrow.Author.Tests.{lt-ltb, le-leb, lt-leb, ne_eqb, eqb-true}
use lib.Dec.{eqb}
use lib.IntN.{ℤ, pos, neg_ℤ}
use lib.ListN.{length, take, drop, take-append-drop}
use Rattle.text.specs.Bytes.{is_space, is_digit, ascii}
use Rattle.text.specs.Places.{has}
use Rattle.text.specs.Words.{onto, pieces, full, words}
use Rattle.text.specs.Decimal.{two_before}
use Rattle.text.specs.Number.{read_from, digits_of, unsigned_of, signed_of, plus, minus}
use Rattle.text.proofs.Lists.{by_test}
use Rattle.text.proofs.Runs.{has_cons, has_nil}
use Rattle.text.proofs.Numbers.{digit_range}
use Rattle.text.proofs.Digits.{unsigned_of-two}
use Rattle.text.proofs.Decimals.{Between}
use Rattle.text.proofs.Taking.{Whole}

module _ (c : ℕ) where
  -- ---- a byte that a text does not hold
  pub not_has_cons : (b : ℕ) (s : List ℕ) → eqb b c ≡ false → has c s ≡ false → has c (b ∷ s) ≡ false
  not_has_cons b s e h = rw (has_cons c b s, e, h)

  neither : (a b : Bool) → (a || b) ≡ false → (a ≡ false) × (b ≡ false)
  neither true b e = absurd (false≢true (sym e))
  neither false b e = (refl, e)

  pub not_has_of_cons : (b : ℕ) (s : List ℕ) → has c (b ∷ s) ≡ false → (eqb b c ≡ false) × (has c s ≡ false)
  not_has_of_cons b s h = neither (eqb b c) (has c s) (sym (has_cons c b s) ∙ h)

  not_has_append : (s t : List ℕ) → has c s ≡ false → has c t ≡ false → has c (s ++ t) ≡ false
  not_has_append [] t h k = k
  not_has_append (b ∷ s) t h k = let p = not_has_of_cons b s h in not_has_cons b (s ++ t) p.0 (not_has_append s t p.1 k)

  -- by the two parts of a text cut at any place
  pub not_has_cut : (n : ℕ) (s : List ℕ) → has c (take n s) ≡ false → has c (drop n s) ≡ false → has c s ≡ false
  not_has_cut n s h k = rw (take-append-drop n s) at (not_has_append (take n s) (drop n s) h k)

  -- ---- a byte that none of the words holds
  abbrev pub Lacking : List (List ℕ) → Type 0
  Lacking [] = Unit {0}
  Lacking (w ∷ ws) = (has c w ≡ false) × Lacking ws

  lacking_of_full : (ws : List (List ℕ)) → Lacking (full ws) → Lacking ws
  unfolding full
  lacking_of_full [] h = tt
  lacking_of_full ([] ∷ ws) h = (has_nil c, lacking_of_full ws h)
  lacking_of_full ((b ∷ w) ∷ ws) h = (h.0, lacking_of_full ws h.1)

  lacking_of_onto : (b : ℕ) (ws : List (List ℕ)) → Lacking (onto b ws) → (eqb b c ≡ false) × Lacking ws
  lacking_of_onto b [] h = ((not_has_of_cons b [] h.0).0, tt)
  lacking_of_onto b (w ∷ ws) h = let p = not_has_of_cons b w h.0 in (p.0, (p.1, h.1))

  module _ (p : ℕ → Bool) (inside : p c ≡ false) where
    not-c : (b : ℕ) → p b ≡ true → eqb b c ≡ false
    not-c b e = ne_eqb b c (λ q. false≢true (sym inside ∙ ap p (sym q) ∙ e))

    not_has_of_pieces : (s : List ℕ) → Lacking (pieces p s) → has c s ≡ false
    unfolding pieces
    not_has_of_pieces [] h = has_nil c
    not_has_of_pieces (b ∷ s) h =
        by_test (p b) (λ e. let k = rw e at h in not_has_cons b s (not-c b e) (not_has_of_pieces s k.1))
        (λ e. let k = lacking_of_onto b (pieces p s) (rw e at h) in not_has_cons b s k.0 (not_has_of_pieces s k.1))

    -- a text does not hold a byte that is no separator and that none of its words holds
    pub not_has_of_words : (s : List ℕ) → Lacking (words p s) → has c s ≡ false
    unfolding words
    not_has_of_words s h = not_has_of_pieces s (lacking_of_full (pieces p s) h)

-- ---- bytes in a range
pub ascii_of_between : (lo hi : ℕ) → hi < 128 → (s : List ℕ) → Between lo hi s → ascii s ≡ true
unfolding ascii
ascii_of_between lo hi h [] b = refl
ascii_of_between lo hi h (x ∷ s) b = let k : x ≤ hi = b.1 in rw (lt-ltb x 128 (omega arith)) (ascii_of_between lo hi h s b.2)

pub no_colon_of_between : (lo : ℕ) (s : List ℕ) → Between lo 57 s → has 58 s ≡ false
no_colon_of_between lo [] b = has_nil 58
no_colon_of_between lo (x ∷ s) b = let k : x ≤ 57 = b.1 in not_has_cons 58 x s (ne_eqb x 58 (λ e. omega arith)) (no_colon_of_between lo s b.2)

pub whole_of_between : (hi : ℕ) (w : List ℕ) → Between 33 hi w → Whole is_space w
unfolding is_space
whole_of_between hi [] b = tt
whole_of_between hi (x ∷ w) b =
    let k : 33 ≤ x = b.0 in
    (rw (le-leb 9 x (omega arith), lt-leb x 13 (omega arith), ne_eqb x 32 (λ e. omega arith)), whole_of_between hi w b.2)

pub Between-le : (lo low hi : ℕ) → low ≤ lo → (s : List ℕ) → Between lo hi s → Between low hi s
Between-le lo low hi h [] b = tt
Between-le lo low hi h (x ∷ s) b = let k : lo ≤ x = b.0 in (omega arith, b.1, Between-le lo low hi h s b.2)

-- ---- the bytes of a number
module _ (n : ℕ) where
  between_of_read_from : (s : List ℕ) (v : ℕ) → read_from v s ≡ Some n → Between 48 57 s
  unfolding read_from
  between_of_read_from [] v h = tt
  between_of_read_from (b ∷ s) v h =
      by_test (is_digit b) (λ e. let r = digit_range b e in (r.0, r.1, between_of_read_from s _ (rw e at h)))
      (λ e. let k = rw e at h in let z : ◌≡◌ {A = ℕ} 0 1 = cc in absurd (omega arith))

  between_of_digits_of : (s : List ℕ) → digits_of s ≡ Some n → Between 43 57 s
  unfolding digits_of
  between_of_digits_of [] h = tt
  between_of_digits_of (b ∷ s) h = Between-le 48 43 57 (omega arith) (b ∷ s) (between_of_read_from (b ∷ s) 0 h)

  pub between_of_unsigned_of : (s : List ℕ) → unsigned_of s ≡ Some n → Between 43 57 s
  unfolding unsigned_of
  between_of_unsigned_of [] h = tt
  between_of_unsigned_of (b ∷ s) h =
      by_test (eqb b 43) (λ e. let k = eqb-true b 43 e in let l : 43 ≤ b = omega arith in let m : b ≤ 57 = omega arith in (l, m, between_of_digits_of s (rw e at h))) (λ e. between_of_digits_of (b ∷ s) (rw e at h))

pub between_of_signed_of : (s : List ℕ) (z : ℤ) → signed_of s ≡ Some z → Between 43 57 s
unfolding signed_of
between_of_signed_of [] z h = tt
between_of_signed_of (b ∷ s) z h =
    by_test (eqb b 45)
    (λ e. let k = eqb-true b 45 e in let l : 43 ≤ b = omega arith in let m : b ≤ 57 = omega arith in (l, m, minused (digits_of s) refl (rw e at h)))
    (λ e. plussed (unsigned_of (b ∷ s)) refl (rw e at h))
  where
    minused : (x : Option ℕ) → digits_of s ≡ x → minus x ≡ Some z → Between 43 57 s
    minused (Some n) e k = between_of_digits_of n s e
    minused None e k = let q : ◌≡◌ {A = ℕ} 0 1 = cc in absurd (omega arith)

    plussed : (x : Option ℕ) → unsigned_of (b ∷ s) ≡ x → plus x ≡ Some z → Between 43 57 (b ∷ s)
    plussed (Some n) e k = between_of_unsigned_of n (b ∷ s) e
    plussed None e k = let q : ◌≡◌ {A = ℕ} 0 1 = cc in absurd (omega arith)

-- so a text that holds a byte of 128 or more is no number
pub signed_of-not-ascii : (s : List ℕ) → ascii s ≡ false → signed_of s ≡ None
signed_of-not-ascii s h = told (signed_of s) refl
  where
    told : (x : Option ℤ) → signed_of s ≡ x → x ≡ None
    told (Some z) e = absurd (false≢true (sym h ∙ ascii_of_between 43 57 (omega arith) s (between_of_signed_of s z e)))
    told None e = refl

-- an unsigned number is the same number as a signed one, since it does not begin with `-`
unsigned_of-minus : (s : List ℕ) → unsigned_of (45 ∷ s) ≡ None
unfolding unsigned_of digits_of read_from is_digit
unsigned_of-minus s = refl

unsigned_of-nil : unsigned_of [] ≡ None
unfolding unsigned_of
unsigned_of-nil = refl

pub signed_of_of_unsigned_of : (s : List ℕ) (n : ℕ) → unsigned_of s ≡ Some n → signed_of s ≡ Some (pos n)
unfolding signed_of
signed_of_of_unsigned_of [] n h = let k = rw unsigned_of-nil at h in let q : ◌≡◌ {A = ℕ} 0 1 = cc in absurd (omega arith)
signed_of_of_unsigned_of (b ∷ s) n h =
    by_test (eqb b 45) (λ e. let k = rw (eqb-true b 45 e, unsigned_of-minus s) at h in let q : ◌≡◌ {A = ℕ} 0 1 = cc in absurd (omega arith)) (λ e. rw (e, h))

pub signed_of-two : (n : ℕ) → n < 100 → signed_of (two_before n []) ≡ Some (pos n)
signed_of-two n h = signed_of_of_unsigned_of (two_before n []) n (unsigned_of-two n h)

-- ---- digits, and a minus and digits
pub signed_of_of_digits : (s : List ℕ) (n : ℕ) → 0 < length s → Between 48 57 s → read_from 0 s ≡ Some n → signed_of s ≡ Some (pos n)
unfolding signed_of unsigned_of digits_of
signed_of_of_digits [] n h b e = absurd (not-suc-le-zero h)
signed_of_of_digits (x ∷ s) n h b e = let k : 48 ≤ x = b.0 in rw (ne_eqb x 45 (λ q. omega arith), ne_eqb x 43 (λ q. omega arith), e)

pub signed_of_of_minus : (s : List ℕ) (n : ℕ) → 0 < length s → read_from 0 s ≡ Some n → signed_of (45 ∷ s) ≡ Some (neg_ℤ (pos n))
unfolding signed_of digits_of
signed_of_of_minus [] n h e = absurd (not-suc-le-zero h)
signed_of_of_minus (x ∷ s) n h e = rw e
