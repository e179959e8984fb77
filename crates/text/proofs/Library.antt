-- What std's methods answer, in the words of this crate. In order: an ASCII text; equal texts; texts that are equal but for the case
-- of their letters; a byte that a text holds; the place of the first one.
-- Assumes nothing.
use Rattle.std.proofs.Common.{◌≡◌, ℕ, zero, suc, ◌≤◌, Bool, true, false, List, [], ◌∷◌, refl, sym, ◌∙◌, length, arith, map}
use Rattle.std.specs.Prelude.{◌↔◌, IsTrue, nat_eq}
use Rattle.std.specs.Bool.{MatchBool}
use Rattle.std.specs.Char.{to_ascii_lowercase}
use Rattle.std.specs.Cmp.Lexicographic.{pointwise}
use Rattle.std.specs.List.{list_any, position_or_len}
use Rattle.std.specs.Str.{IsAscii, IsNotAscii}
use Rattle.std.proofs.lemmas.Bool.Decides.{nat_tests}
use mathlib.Core.Bool.{false≢true, and-false}
use borrow.Author.Tests.{lt-ltb, le-ltb, eq-eqb, eqb-true}
use lib.Dec.{eqb}
use lib.ListN.{get_or}
use Rattle.text.specs.Bytes.{ascii, same, same_letters, lower_of}
use Rattle.text.specs.Places.{run, first_place, has}
use Rattle.text.proofs.Lists.{by_test, both}
use Rattle.text.proofs.Runs.{run-le-length, has_cons, has_nil}

-- ---- an ASCII text
all_below : (s : List ℕ) → IsAscii s → ascii s ≡ true
unfolding ascii
all_below [] h = refl
all_below (b ∷ s) h = rw (lt-ltb b 128 (h 0), all_below s (λ i. h (suc i)))

one_above : (s : List ℕ) (i : ℕ) → 128 ≤ get_or s i 0 → ascii s ≡ false
unfolding ascii
one_above [] i h = absurd (omega arith)
one_above (b ∷ s) zero h = rw (le-ltb b 128 h)
one_above (b ∷ s) (suc i) h = rw (one_above s i h, and-false)

pub ascii_is : (s : List ℕ) (r : Bool) → MatchBool r (IsAscii s) (IsNotAscii s) → r ≡ ascii s
ascii_is s true h = sym (all_below s h)
ascii_is s false h = sym (one_above s h.0 h.1)

-- ---- equal texts
pub same_is : (s t : List ℕ) → pointwise nat_eq s t ≡ same s t
unfolding same
same_is [] [] = refl
same_is [] (y ∷ t) = refl
same_is (x ∷ s) [] = refl
same_is (x ∷ s) (y ∷ t) = rw (same_is s t)

-- ---- texts that are equal but for the case of their letters
lower_is : (b : ℕ) → lower_of b ≡ to_ascii_lowercase b
unfolding lower_of
lower_is b = grind (arith, nat_tests)

lowers_of_same : (s t : List ℕ) → same_letters s t ≡ true → map to_ascii_lowercase s ≡ map to_ascii_lowercase t
unfolding same_letters
lowers_of_same [] [] h = refl
lowers_of_same [] (y ∷ t) h = absurd (false≢true h)
lowers_of_same (x ∷ s) [] h = absurd (false≢true h)
lowers_of_same (x ∷ s) (y ∷ t) h =
    let k = both (eqb (lower_of x) (lower_of y)) (same_letters s t) h in
    let e : lower_of x ≡ lower_of y = eqb-true (lower_of x) (lower_of y) k.0 in
    rw (← lower_is x, ← lower_is y, e, lowers_of_same s t k.1)

same_of_lowers : (s t : List ℕ) → map to_ascii_lowercase s ≡ map to_ascii_lowercase t → same_letters s t ≡ true
unfolding same_letters
same_of_lowers [] [] h = refl
same_of_lowers [] (y ∷ t) h = cc
same_of_lowers (x ∷ s) [] h = cc
same_of_lowers (x ∷ s) (y ∷ t) h =
    let e : to_ascii_lowercase x ≡ to_ascii_lowercase y = cc in
    let k : map to_ascii_lowercase s ≡ map to_ascii_lowercase t = cc in
    rw (eq-eqb (lower_of x) (lower_of y) (lower_is x ∙ e ∙ sym (lower_is y)), same_of_lowers s t k)

pub same_letters_is : (s t : List ℕ) (r : Bool) → (IsTrue r ↔ (map to_ascii_lowercase s ≡ map to_ascii_lowercase t)) → r ≡ same_letters s t
same_letters_is s t true h = sym (same_of_lowers s t (h.0 refl))
same_letters_is s t false h = by_test (same_letters s t) (λ e. h.1 (lowers_of_same s t e) ∙ sym e) (λ e. sym e)

-- ---- a byte that a text holds
pub has_is : (b : ℕ) (s : List ℕ) → list_any (λ x. nat_eq x b) s ≡ has b s
has_is b [] = sym (has_nil b)
has_is b (x ∷ s) = rw (has_is b s) (sym (has_cons b x s))

-- ---- the place of the first one
pub first_place_is : (b : ℕ) (s : List ℕ) → position_or_len (λ x. nat_eq x b) s ≡ first_place b s
unfolding first_place run
first_place_is b [] = refl
first_place_is b (x ∷ s) = by_test (nat_eq x b) (λ e. rw e) (λ e. rw e (omega (arith, first_place_is b s)))

pub first_place_le : (b : ℕ) (s : List ℕ) → first_place b s ≤ length s
unfolding first_place
first_place_le b s = run-le-length _ s
