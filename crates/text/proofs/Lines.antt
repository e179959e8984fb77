-- Lines and fields. In order: a text cut at its first newline, or without one; the lines of two texts, one after the other; a text
-- in which no line is ended; what is left after the ended lines; a line cut into fields one after the other.
-- Assumes nothing.
use mathlib.Core.Path.{◌≡◌, refl, sym, ap, ◌∙◌}
use mathlib.Core.List.{List, [], ◌∷◌, ◌++◌}
use Prim.Native.Nat.{ℕ, zero, suc, ◌+◌, ◌≤◌, ◌<◌}
use native.Mathlib.Nat.{le_refl}
use native.Mathlib.Omega.{arith}
use borrow.Author.Tests.{ltb-true, ltb-false}
use lib.Dec.{ltb, eqb}
use lib.ListN.{length, take, drop, length-drop}
use lib.Seq.{drop-drop, length-take-le}
use Rattle.text.specs.Lines.{tab, newline, rest, lines_of, onto_first, ended_lines, taken_by, left}
use Rattle.text.specs.Places.{first_place}
use Rattle.text.specs.Words.{onto}
use Rattle.text.proofs.FirstPlaces.{first_place-here, first_place-later}
use Rattle.text.proofs.Lists.{by_test}

-- ---- cut at the first newline
pub ended_lines-none : (s : List ℕ) → length s ≤ first_place newline s → ended_lines s ≡ []
unfolding ended_lines
ended_lines-none [] h = refl
ended_lines-none (b ∷ s) h =
    by_test (eqb b newline) (λ e. absurd (omega (arith, first_place-here newline b s e)))
    (λ e. rw (e, ended_lines-none s (omega (arith, first_place-later newline b s e))))

pub ended_lines-cut : (s : List ℕ) (e : ℕ) → e ≡ first_place newline s → e < length s → ended_lines s ≡ take e s ∷ ended_lines (drop (suc e) s)
unfolding ended_lines
ended_lines-cut [] e p h = absurd (omega arith)
ended_lines-cut (b ∷ s) zero p h = by_test (eqb b newline) (λ y. rw y) (λ y. absurd (omega (arith, first_place-later newline b s y)))
ended_lines-cut (b ∷ s) (suc e) p h =
    by_test (eqb b newline) (λ y. absurd (omega (arith, first_place-here newline b s y)))
    (λ y. rw (y, ended_lines-cut s e (omega (arith, first_place-later newline b s y)) (omega arith)))

-- the line that begins at t, and the lines after it, of a text that was cut there
pub ended_lines_at : (s left line : List ℕ) (t e : ℕ) → left ≡ drop t s → e ≡ first_place newline left → e < length left → line ≡ take e left
    → ended_lines (drop t s) ≡ line ∷ ended_lines (drop (t + (e + 1)) s)
ended_lines_at s left line t e pr pe h pl =
    let q : t + suc e ≡ t + (e + 1) = omega arith in
    ap ended_lines (sym pr) ∙ ended_lines-cut left e pe h
    ∙ (λ i. sym pl i ∷ ended_lines (drop (suc e) (pr i)))
    ∙ ap (λ (v : List ℕ). line ∷ ended_lines v) (drop-drop (suc e) t s ∙ ap (λ (v : ℕ). drop v s) q)

-- ---- two texts, one after the other
pub lines_of-cut : (s z : List ℕ) (e : ℕ) → e ≡ first_place newline s → e < length s → lines_of (s ++ z) ≡ take e s ∷ lines_of (drop (suc e) s ++ z)
unfolding lines_of
lines_of-cut [] z e p h = absurd (omega arith)
lines_of-cut (b ∷ s) z zero p h = by_test (eqb b newline) (λ y. rw y) (λ y. absurd (omega (arith, first_place-later newline b s y)))
lines_of-cut (b ∷ s) z (suc e) p h =
    by_test (eqb b newline) (λ y. absurd (omega (arith, first_place-here newline b s y)))
    (λ y. rw (y, lines_of-cut s z e (omega (arith, first_place-later newline b s y)) (omega arith)))

-- ---- no line is ended
unfoldable pub head_of : List (List ℕ) → List ℕ
head_of [] = []
head_of (l ∷ ls) = l

unfoldable pub tail_of : List (List ℕ) → List (List ℕ)
tail_of [] = []
tail_of (l ∷ ls) = ls

onto_first-nil : (b : ℕ) (ls : List (List ℕ)) → onto_first b ls ≡ [] → ls ≡ []
onto_first-nil b [] e = refl
onto_first-nil b (l ∷ ls) e = let z : ◌≡◌ {A = ℕ} 0 1 = cc in absurd (omega arith)

onto_first_is : (b : ℕ) (ls : List (List ℕ)) → onto b ls ≡ (b ∷ head_of ls) ∷ tail_of ls
unfolding head_of tail_of
onto_first_is b [] = refl
onto_first_is b (l ∷ ls) = refl

not-nil : (ls : List (List ℕ)) → [] ∷ ls ≡ [] → ⊥
not-nil ls e = let w : ◌≡◌ {A = ℕ} 0 1 = cc in omega arith

-- such a text is the beginning of the first line of what follows
pub lines_of-open : (s : List ℕ) (b : ℕ) (z : List ℕ) → ended_lines (b ∷ s) ≡ [] → lines_of (b ∷ s ++ z) ≡ (b ∷ s ++ head_of (lines_of z)) ∷ tail_of (lines_of z)
unfolding lines_of ended_lines
lines_of-open [] b z h = by_test (eqb b newline) (λ y. absurd (not-nil (ended_lines []) (rw y at h))) (λ y. rw y (onto_first_is b (lines_of z)))
lines_of-open (x ∷ s) b z h =
    by_test (eqb b newline) (λ y. absurd (not-nil (ended_lines (x ∷ s)) (rw y at h)))
    (λ y. rw y (ap (onto b) (lines_of-open s x z (onto_first-nil b (ended_lines (x ∷ s)) (rw y at h)))))

pub ended_lines-take : (k : ℕ) (s : List ℕ) → ended_lines s ≡ [] → ended_lines (take k s) ≡ []
unfolding ended_lines
ended_lines-take zero s h = refl
ended_lines-take (suc k) [] h = refl
ended_lines-take (suc k) (b ∷ s) h =
    by_test (eqb b newline) (λ y. absurd (not-nil (ended_lines s) (rw y at h)))
    (λ y. rw y (ap (onto_first b) (ended_lines-take k s (onto_first-nil b (ended_lines s) (rw y at h)))))

-- ---- what is left after the ended lines: no line in it is ended
left_none : (s : List ℕ) → ended_lines s ≡ [] → ended_lines (left s) ≡ []
unfolding left taken_by
left_none s e = ap (λ (ls : List (List ℕ)). ended_lines (drop (taken_by ls) s)) e ∙ e

left_line : (n : ℕ) (s : List ℕ) → ((t : List ℕ) → length t ≤ n → ended_lines (left t) ≡ []) → length s ≤ suc n → (e : ℕ) → e ≡ first_place newline s → e < length s
    → ended_lines (left s) ≡ []
unfolding left taken_by
left_line n s shorter h e p l =
    let t = drop (suc e) s in
    let le : length (take e s) ≡ e = length-take-le e s (omega arith) in
    let d : length (take e s) + 1 + taken_by (ended_lines t) ≡ suc e + taken_by (ended_lines t) = omega arith in
    ap (λ (ls : List (List ℕ)). ended_lines (drop (taken_by ls) s)) (ended_lines-cut s e p l) ∙ ap (λ (v : ℕ). ended_lines (drop v s)) d
    ∙ ap ended_lines (sym (drop-drop (taken_by (ended_lines t)) (suc e) s)) ∙ shorter t (omega (arith, length-drop (suc e) s))

left_within : (n : ℕ) (s : List ℕ) → length s ≤ n → ended_lines (left s) ≡ []
left_within zero s h = left_none s (ended_lines-none s (omega arith))
left_within (suc n) s h =
    by_test (ltb (first_place newline s) (length s)) (λ y. left_line n s (left_within n) h (first_place newline s) refl (ltb-true _ _ y))
    (λ y. left_none s (ended_lines-none s (ltb-false _ _ y)))

pub ended_lines-left : (s : List ℕ) → ended_lines (left s) ≡ []
ended_lines-left s = left_within (length s) s (le_refl (length s))

-- ---- fields
pub cut_rest : (s r : List ℕ) (a : ℕ) → a ≡ first_place tab s → r ≡ drop (a + 1) s → r ≡ rest s
cut_rest s r a e f = f ∙ ap (λ (v : ℕ). drop (v + 1) s) e
