-- Chains of kept lines. In order: how far a chain may go does not matter if it goes down; the number that is found in it; a line that is entered behind the others changes
-- nothing about them; the kept lines, with one more; what the entry of a line does to the chains of all paths; whether a chain overtakes a line.
-- Assumes nothing.
use mathlib.Core.Path.{◌≡◌, refl, sym, ap, ◌∙◌}
use mathlib.Core.Bool.{Bool, false, cond}
use mathlib.Core.List.{List, [], ◌∷◌}
use Prim.Native.Nat.{ℕ, zero, suc, ◌+◌, ◌≤◌, ◌<◌}
use native.Mathlib.Nat.{le_refl}
use native.Mathlib.Omega.{arith}
use native.Mathlib.Numerals.{add-one}
use borrow.Author.Tests.{ltb-true, ltb-false, eqb-true, eqb-false}
use lib.Dec.{ltb, eqb}
use lib.ListN.{length, drop, get_or, set}
use lib.Seq.{get_or-set_same, get_or-set_other}
use Rattle.text.specs.Bytes.{same}
use Rattle.text.proofs.Lists.{by_test}
use Rattle.stamps.proofs.Printed.{eq_of_same}
use Rattle.compact.specs.Held.{path_at, bucket_of, line_at, lines_down, number_in, found_number, is_overtaken}

-- the first n links go down
abbrev pub Down : List ℕ → ℕ → Type 0
Down links n = (k : ℕ) → k < n → get_or links k 0 ≤ k

module _ (book links places p : List ℕ) where
  number_in-zero : (m : ℕ) → number_in book links places p m 0 ≡ 0
  unfolding number_in
  number_in-zero zero = refl
  number_in-zero (suc m) = refl

  -- ---- how far it may go
  pub number_in-most : (m n k : ℕ) → k ≤ m → k ≤ n → Down links k → number_in book links places p m k ≡ number_in book links places p n k
  unfolding number_in
  number_in-most zero n zero h i down = sym (number_in-zero n)
  number_in-most zero n (suc k) h i down = absurd (omega arith)
  number_in-most (suc m) zero zero h i down = refl
  number_in-most (suc m) zero (suc k) h i down = absurd (omega arith)
  number_in-most (suc m) (suc n) zero h i down = refl
  number_in-most (suc m) (suc n) (suc k) h i down =
      let d = down k (omega arith) in
      ap (cond (same (path_at (drop (get_or places k 0) book)) p) (suc k))
      (number_in-most m n (get_or links k 0) (omega arith) (omega arith) (λ j lt. down j (omega arith)))

  -- ---- the number that is found: it is not above the one that the chain begins with, and its line has the path
  pub number_in-le : (m k : ℕ) → Down links k → number_in book links places p m k ≤ k
  unfolding number_in
  number_in-le zero k down = omega arith
  number_in-le (suc m) zero down = omega arith
  number_in-le (suc m) (suc k) down =
      let d = down k (omega arith) in
      let below = number_in-le m (get_or links k 0) (λ j lt. down j (omega arith)) in
      by_test (same (path_at (drop (get_or places k 0) book)) p) (λ y. rw y (omega arith)) (λ n. rw n (omega arith))

  pub number_in-path : (m k n : ℕ) → number_in book links places p m k ≡ suc n → path_at (drop (get_or places n 0) book) ≡ p
  unfolding number_in
  number_in-path zero k n e = absurd (omega arith)
  number_in-path (suc m) zero n e = absurd (omega arith)
  number_in-path (suc m) (suc k) n e =
      by_test (same (path_at (drop (get_or places k 0) book)) p)
      (λ y.
      let f : suc k ≡ suc n = rw y at e in
      let q : k ≡ n = omega arith in
      ap (λ (j : ℕ). path_at (drop (get_or places j 0) book)) (sym q) ∙ eq_of_same (path_at (drop (get_or places k 0) book)) p y)
      (λ f. number_in-path m (get_or links k 0) n (rw f at e))

  -- ---- a line entered behind n others
  number_in-set : (n a b m k : ℕ) → k ≤ n → Down links n → number_in book (set links n a) (set places n b) p m k ≡ number_in book links places p m k
  unfolding number_in
  number_in-set n a b zero k h down = refl
  number_in-set n a b (suc m) zero h down = refl
  number_in-set n a b (suc m) (suc k) h down =
      let d = down k (omega arith) in
      let ne : k ≡ n → ⊥ = λ e. omega arith in
      (λ i. cond (same (path_at (drop (get_or-set_other places n k b 0 ne i) book)) p) (suc k) (number_in book (set links n a) (set places n b) p m (get_or-set_other links n k a 0 ne i)))
      ∙ ap (cond (same (path_at (drop (get_or places k 0) book)) p) (suc k)) (number_in-set n a b m (get_or links k 0) (omega arith) down)

-- ---- the kept lines
lines_down-set : (book places : List ℕ) (n a k : ℕ) → k ≤ n → lines_down book (set places n a) k ≡ lines_down book places k
unfolding lines_down
lines_down-set book places n a zero h = refl
lines_down-set book places n a (suc k) h =
    let ne : k ≡ n → ⊥ = λ e. omega arith in
    λ i. line_at book (get_or-set_other places n k a 0 ne i) ∷ lines_down-set book places n a k (omega arith) i

pub lines_down-enter : (book places : List ℕ) (n a : ℕ) → n < length places → lines_down book (set places n a) (n + 1) ≡ line_at book a ∷ lines_down book places n
unfolding lines_down
lines_down-enter book places n a h = rw add-one (λ i. line_at book (get_or-set_same places n a 0 h i) ∷ lines_down-set book places n a n (omega arith) i)

-- ---- a line entered in the bucket of its path
module _ (book heads links places : List ℕ) (n start : ℕ) (heads_le : (b : ℕ) → get_or heads b 0 ≤ n) (down : Down links n)
    (head_in : (p : List ℕ) → bucket_of p < length heads) (link-in : n < length links) (place-in : n < length places) where
  abbrev path : List ℕ
  path = path_at (drop start book)

  abbrev heads' : List ℕ
  heads' = set heads (bucket_of path) (n + 1)

  abbrev links' : List ℕ
  links' = set links n (get_or heads (bucket_of path) 0)

  abbrev places' : List ℕ
  places' = set places n start

  -- a path in the bucket of the line: the line is in front of the chain that was there
  enter_same : (p : List ℕ) → bucket_of p ≡ bucket_of path → found_number book heads' links' places' p ≡ cond (same path p) (suc n) (found_number book heads links places p)
  unfolding number_in
  enter_same p e =
      let head = get_or heads (bucket_of path) 0 in
      let first : get_or heads' (bucket_of p) 0 ≡ suc n = ap (λ (b : ℕ). get_or heads' b 0) e ∙ get_or-set_same heads (bucket_of path) (n + 1) 0 (head_in path) ∙ add-one n in
      let below : number_in book links' places' p n (get_or links' n 0) ≡ found_number book heads links places p =
      ap (number_in book links' places' p n) (get_or-set_same links n head 0 link-in) ∙ number_in-set book links places p n head start n head (heads_le (bucket_of path)) down
      ∙ number_in-most book links places p n head head (heads_le (bucket_of path)) (le_refl head) (λ k lt. down k (omega (arith, heads_le (bucket_of path))))
      ∙ ap (λ (b : ℕ). number_in book links places p (get_or heads b 0) (get_or heads b 0)) (sym e) in
      ap (λ (k : ℕ). number_in book links' places' p k k) first
      ∙ (λ i. cond (same (path_at (drop (get_or-set_same places n start 0 place-in i) book)) p) (suc n) (below i))

  -- a path in another bucket is another path
  enter_other : (p : List ℕ) → (bucket_of p ≡ bucket_of path → ⊥) → found_number book heads' links' places' p ≡ cond (same path p) (suc n) (found_number book heads links places p)
  enter_other p ne =
      let head = get_or heads (bucket_of p) 0 in
      let differs : same path p ≡ false = by_test (same path p) (λ y. absurd (ne (ap bucket_of (sym (eq_of_same path p y))))) (λ y. y) in
      ap (λ (k : ℕ). number_in book links' places' p k k) (get_or-set_other heads (bucket_of path) (bucket_of p) (n + 1) 0 ne)
      ∙ number_in-set book links places p n (get_or heads (bucket_of path) 0) start head head (heads_le (bucket_of p)) down
      ∙ ap (λ (t : Bool). cond t (suc n) (found_number book heads links places p)) (sym differs)

  pub found_number-enter : (p : List ℕ) → found_number book heads' links' places' p ≡ cond (same path p) (suc n) (found_number book heads links places p)
  found_number-enter p =
      by_test (eqb (bucket_of p) (bucket_of path)) (λ e. enter_same p (eqb-true (bucket_of p) (bucket_of path) e)) (λ e. enter_other p (eqb-false (bucket_of p) (bucket_of path) e))

  -- all heads are numbers of kept lines, and all links go down
  pub heads_enter : (b : ℕ) → get_or heads' b 0 ≤ n + 1
  heads_enter b =
      by_test (eqb b (bucket_of path))
      (λ e. omega (arith, ap (λ (k : ℕ). get_or heads' k 0) (eqb-true b (bucket_of path) e), get_or-set_same heads (bucket_of path) (n + 1) 0 (head_in path)))
      (λ e. omega (arith, heads_le b, get_or-set_other heads (bucket_of path) b (n + 1) 0 (eqb-false b (bucket_of path) e)))

  pub down_enter : Down links' (n + 1)
  down_enter k h =
      by_test (eqb k n)
      (λ e.
      let q = eqb-true k n e in
      omega (arith, heads_le (bucket_of path), ap (λ (j : ℕ). get_or links' j 0) q, get_or-set_same links n (get_or heads (bucket_of path) 0) 0 link-in))
      (λ e.
      let ne = eqb-false k n e in
      let lt : k < n = lt_of_ne ne in
      omega (arith, down k lt, get_or-set_other links n k (get_or heads (bucket_of path) 0) 0 ne))
    where
      lt_of_ne : (k ≡ n → ⊥) → k < n
      lt_of_ne ne = by_test (ltb k n) (λ y. ltb-true k n y) (λ y. absurd (ne (omega (arith, ltb-false k n y))))

-- ---- a line is overtaken exactly if it has a path and its chain has it
module _ (book links places : List ℕ) where
  pub overtaken_no_path : (p : List ℕ) (first : ℕ) → length p ≤ 0 → is_overtaken book links places p first ≡ false
  unfolding is_overtaken
  overtaken_no_path [] first h = refl
  overtaken_no_path (b ∷ p) first h = absurd (omega arith)

  pub overtaken_path : (p : List ℕ) (first : ℕ) → 0 < length p → is_overtaken book links places p first ≡ ltb 0 (number_in book links places p first first)
  unfolding is_overtaken
  overtaken_path [] first h = absurd (omega arith)
  overtaken_path (b ∷ p) first h = refl
