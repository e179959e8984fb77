-- The first place of a byte b. In order: the clauses of `first_place`; the byte at that place is b; the first n bytes decide
-- whether it is among them; a text cut at its first b and at each b; a text that does not hold b.
-- Assumes nothing.
use mathlib.Core.Path.{◌≡◌, refl, ap, ◌∙◌}
use mathlib.Core.Bool.{Bool, true, false}
use mathlib.Core.List.{List, [], ◌∷◌}
use Prim.Native.Nat.{ℕ, zero, suc, ◌+◌, ◌≤◌, ◌<◌}
use native.Mathlib.Omega.{arith}
use native.Mathlib.Nat.{not-suc-le-zero}
use native.Mathlib.Numerals.{add-one}
use borrow.Author.Tests.{eqb-true}
use lib.Dec.{eqb}
use lib.ListN.{length, get_or, take, drop}
use Rattle.text.specs.Places.{run, first_place, last_where, last_place, opens_with}
use Rattle.text.specs.Words.{pieces}
use Rattle.text.proofs.Lists.{by_test}
use Rattle.text.proofs.Runs.{last_where-none}

pub first_place-here : (b x : ℕ) (s : List ℕ) → eqb x b ≡ true → first_place b (x ∷ s) ≡ 0
unfolding first_place run
first_place-here b x s e = rw e

pub first_place-later : (b x : ℕ) (s : List ℕ) → eqb x b ≡ false → first_place b (x ∷ s) ≡ suc (first_place b s)
unfolding first_place run
first_place-later b x s e = rw e

-- the byte at that place is b
pub get_or-first_place : (b : ℕ) (s : List ℕ) → first_place b s < length s → get_or s (first_place b s) 0 ≡ b
unfolding first_place run
get_or-first_place b [] h = absurd (not-suc-le-zero h)
get_or-first_place b (x ∷ s) h = by_test (eqb x b) (λ e. rw e (eqb-true x b e)) (λ e. rw e (get_or-first_place b s (omega (arith, rw e at h))))

-- if the first n bytes hold b, the first place in them is the first place in the whole
first_place_of_take : (b n : ℕ) (s : List ℕ) → n ≤ length s → first_place b (take n s) < n → first_place b s ≡ first_place b (take n s)
unfolding first_place run
first_place_of_take b zero s k h = absurd (not-suc-le-zero h)
first_place_of_take b (suc n) [] k h = absurd (not-suc-le-zero k)
first_place_of_take b (suc n) (x ∷ s) k h = by_test (eqb x b) (λ e. rw e) (λ e. rw e (ap suc (first_place_of_take b n s (omega arith) (omega (arith, rw e at h)))))

first_place-take : (b n : ℕ) (s : List ℕ) → first_place b s < n → first_place b (take n s) ≡ first_place b s
unfolding first_place run
first_place-take b zero s h = absurd (not-suc-le-zero h)
first_place-take b (suc n) [] h = refl
first_place-take b (suc n) (x ∷ s) h = by_test (eqb x b) (λ e. rw e) (λ e. rw e (ap suc (first_place-take b n s (omega (arith, rw e at h)))))

module _ (b n k : ℕ) (s : List ℕ) (r : ℕ) (e : r ≡ first_place b (take n s)) (l : k < n) where
  pub first_place_is : n ≤ length s → r ≡ k → first_place b s ≡ k
  first_place_is h q =
      let f : first_place b (take n s) < n = omega arith in
      omega (arith, first_place_of_take b n s h f)

  pub first_place_is_not : (r ≡ k → ⊥) → first_place b s ≡ k → ⊥
  first_place_is_not h q =
      let f : first_place b s < n = omega arith in
      h (e ∙ first_place-take b n s f ∙ q)

abbrev pub at : ℕ → ℕ → Bool
at b x = eqb x b

-- cut at each b: first what comes before the first b, then the pieces of what follows it
pieces-cons : (b : ℕ) (s : List ℕ) → first_place b s < length s → pieces (at b) s ≡ take (first_place b s) s ∷ pieces (at b) (drop (suc (first_place b s)) s)
unfolding pieces first_place run
pieces-cons b [] h = absurd (not-suc-le-zero h)
pieces-cons b (x ∷ s) h = by_test (eqb x b) (λ e. rw e) (λ e. rw (e, pieces-cons b s (omega (arith, rw e at h))))

pub pieces_of_lt : (b : ℕ) (s : List ℕ) → first_place b s < length s → pieces (at b) s ≡ take (first_place b s) s ∷ pieces (at b) (drop (first_place b s + 1) s)
pieces_of_lt b s h = rw add-one (pieces-cons b s h)

-- a text that does not hold b is one piece
pub pieces_of_le : (b : ℕ) (s : List ℕ) → length s ≤ first_place b s → pieces (at b) s ≡ s ∷ []
unfolding pieces first_place run
pieces_of_le b [] h = refl
pieces_of_le b (x ∷ s) h = by_test (eqb x b) (λ e. absurd (omega (arith, rw e at h))) (λ e. rw (e, pieces_of_le b s (omega (arith, rw e at h))))

-- ---- a text that does not hold b
abbrev pub Free : ℕ → List ℕ → Type 0
Free b [] = Unit {0}
Free b (x ∷ s) = (eqb x b ≡ false) × Free b s

pub first_place_of_Free : (b : ℕ) (s : List ℕ) → Free b s → first_place b s ≡ length s
unfolding first_place run
first_place_of_Free b [] f = refl
first_place_of_Free b (x ∷ s) f = rw f.0 (ap suc (first_place_of_Free b s f.1))

pub last_place_of_Free : (b : ℕ) (s : List ℕ) → Free b s → last_place b s ≡ length s
unfolding last_place last_where
last_place_of_Free b [] f = refl
last_place_of_Free b (x ∷ s) f = last_where-none (opens_with b) x s (last_place_of_Free b s f.1) f.0
