-- Lists at a place that a loop has reached, and proofs by a test. In order: `by_test`, `both`; what is left at a place; what comes
-- before it; parts of a list; texts of two lengths; places past the end.
-- Assumes nothing.
use mathlib.Core.Path.{◌≡◌, refl, sym, ap, ◌∙◌}
use mathlib.Core.Bool.{Bool, true, false, ◌&&◌, false≢true, and-false}
use mathlib.Core.List.{List, [], ◌∷◌, ◌++◌}
use Prim.Native.Nat.{ℕ, zero, suc, ◌+◌, ◌-◌, ◌≤◌, ◌<◌}
use native.Mathlib.Numerals.{add-one}
use native.Mathlib.Omega.{arith}
use borrow.Author.Tests.{eqb-true, eqb-false}
use lib.Dec.{eqb}
use lib.ListN.{length, get_or, take, drop, length-drop}
use Rattle.text.specs.Bytes.{same, same_letters}
use lib.Seq.{drop-cons, take_all, take-suc}

-- by a test: each case may rewrite by the result of the test
pub by_test : {A : Type 0} (t : Bool) → (t ≡ true → A) → (t ≡ false → A) → A
by_test true f g = f refl
by_test false f g = g refl

-- both halves of a test hold
pub both : (a b : Bool) → (a && b) ≡ true → (a ≡ true) × (b ≡ true)
both true b e = (refl, e)
both false b e = absurd (false≢true e)

-- what is left at i is the byte there, and what is left after it
pub drop-cons-add-one : (s : List ℕ) (i : ℕ) → i < length s → drop i s ≡ get_or s i 0 ∷ drop (i + 1) s
drop-cons-add-one s i h = rw (add-one, drop-cons s i 0)

-- from the end: what is left one place earlier
pub drop-sub-one : (s : List ℕ) (e : ℕ) → 0 < e → e ≤ length s → drop (e - 1) s ≡ get_or s (e - 1) 0 ∷ drop e s
drop-sub-one s e p h =
    let n : e - 1 + 1 ≡ e = omega arith in
    let l : e - 1 < length s = omega arith in
    rw n at (drop-cons-add-one s (e - 1) l)

-- the part from i to the end is all that is left at i
pub take-length-sub-drop : (s : List ℕ) (i : ℕ) → take (length s - i) (drop i s) ≡ drop i s
take-length-sub-drop s i = let h : length (drop i s) ≤ length s - i = omega (arith, length-drop i s) in take_all _ _ h

-- the first e bytes are the first e - 1 and the one there
pub take_snoc : (s : List ℕ) (e : ℕ) → 0 < e → e ≤ length s → take e s ≡ take (e - 1) s ++ (get_or s (e - 1) 0 ∷ [])
take_snoc s e p h =
    let k : suc (e - 1) ≡ e = omega arith in
    let l : e - 1 < length s = omega arith in
    rw k at (take-suc s (e - 1) 0 l)

-- the first two bytes there
pub take-two-drop : (s : List ℕ) (i : ℕ) → i + 2 ≤ length s → take 2 (drop i s) ≡ get_or s i 0 ∷ get_or s (i + 1) 0 ∷ []
take-two-drop s i h = rw (drop-cons-add-one s i (omega arith), drop-cons-add-one s (i + 1) (omega arith))

-- a part of a part from its start is a part of the whole
pub take-length-take-take : (m k : ℕ) (s : List ℕ) → take (length (take m (take k s))) s ≡ take m (take k s)
take-length-take-take zero k s = refl
take-length-take-take (suc m) zero s = refl
take-length-take-take (suc m) (suc k) [] = refl
take-length-take-take (suc m) (suc k) (b ∷ s) = ap (λ (t : List ℕ). b ∷ t) (take-length-take-take m k s)

-- texts of two lengths are not the same
pub same_of_length : (s t : List ℕ) → (length s ≡ length t → ⊥) → same s t ≡ false
unfolding same
same_of_length [] [] h = absurd (h refl)
same_of_length [] (y ∷ t) h = refl
same_of_length (x ∷ s) [] h = refl
same_of_length (x ∷ s) (y ∷ t) h = rw (same_of_length s t (λ e. h (ap suc e)), and-false)

pub same_letters_of_length : (s t : List ℕ) → (length s ≡ length t → ⊥) → same_letters s t ≡ false
unfolding same_letters
same_letters_of_length [] [] h = absurd (h refl)
same_letters_of_length [] (y ∷ t) h = refl
same_letters_of_length (x ∷ s) [] h = refl
same_letters_of_length (x ∷ s) (y ∷ t) h = rw (same_letters_of_length s t (λ e. h (ap suc e)), and-false)

pub length_of_same : (s t : List ℕ) → same_letters s t ≡ true → length s ≡ length t
length_of_same s t e =
    by_test (eqb (length s) (length t)) (λ f. eqb-true (length s) (length t) f)
    (λ f. absurd (false≢true (sym (same_letters_of_length s t (eqb-false (length s) (length t) f)) ∙ e)))

-- past the end
pub get_or_of_length-le : (s : List ℕ) (i : ℕ) → length s ≤ i → get_or s i 0 ≡ 0
get_or_of_length-le [] i h = refl
get_or_of_length-le (b ∷ s) zero h = absurd (omega arith)
get_or_of_length-le (b ∷ s) (suc i) h = get_or_of_length-le s i (omega arith)
