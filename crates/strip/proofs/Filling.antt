-- The values of f along a run of places: one by one (`get_or-along`), in two parts (`along-append`), as another function's (`along-eq`). And
-- a list of n zeros that becomes the values of f, place by place from the left: `Filled f k l` says that l has the values of f up to place k,
-- and zeros from there on. It holds of the zeros where f has none but zeros before place k (`Filled-zeros`), goes on by a place
-- (`Filled-set`), and where f has nothing but zeros from place k on, the list is done (`along_of_Filled`).
-- Assumes nothing.
use mathlib.Core.Path.{◌≡◌, refl, sym, ap, ◌∙◌}
use mathlib.Core.List.{List, ◌∷◌, ◌++◌}
use Prim.Native.Nat.{ℕ, zero, suc, ◌+◌, ◌≤◌, ◌<◌}
use native.Mathlib.Nat.{add-zero, add-suc, suc-add, zero-add, le_of_suc-le-suc, not-suc-le-zero}
use native.Mathlib.Decide.{dec_lt}
use native.Mathlib.Omega.{arith}
use lib.ListN.{length, get_or, set, replicate, length-set, length-replicate, get_or-replicate}
use lib.Seq.{ext_get_or, get_or-set_same, get_or-set_other}
use Rattle.strip.specs.Strip.{along}

pub length-along : (f : ℕ → ℕ) (n i : ℕ) → length (along f n i) ≡ n
unfolding along
length-along f zero i = refl
length-along f (suc n) i = ap suc (length-along f n (suc i))

pub get_or-along : (f : ℕ → ℕ) (n i k : ℕ) → k < n → get_or (along f n i) k 0 ≡ f (i + k)
unfolding along
get_or-along f zero i k h = absurd (not-suc-le-zero h)
get_or-along f (suc n) i zero h = ap f (sym (add-zero i))
get_or-along f (suc n) i (suc k) h = get_or-along f n (suc i) k (le_of_suc-le-suc h) ∙ ap f (suc-add i k ∙ sym (add-suc i k))

pub along-append : (f : ℕ → ℕ) (a b i : ℕ) → along f (a + b) i ≡ along f a i ++ along f b (i + a)
unfolding along
along-append f zero b i = rw (zero-add, add-zero)
along-append f (suc a) b i =
    let e : i + suc a ≡ suc i + a = omega arith in
    ap (λ (n : ℕ). along f n i) (suc-add a b) ∙ rw e (ap (λ (l : List ℕ). f i ∷ l) (along-append f a b (suc i)))

-- f from i on is g from j on
pub along-eq : (f g : ℕ → ℕ) (n i j : ℕ) → ((k : ℕ) → k < n → f (i + k) ≡ g (j + k)) → along f n i ≡ along g n j
along-eq f g n i j e =
    ext_get_or 0 (along f n i) (along g n j) (length-along f n i ∙ sym (length-along g n j)) (λ k h.
    let l : k < n = rw length-along at h in
    get_or-along f n i k l ∙ e k l ∙ sym (get_or-along g n j k l))

pub along_zeros : (f : ℕ → ℕ) (n i : ℕ) → ((k : ℕ) → k < n → f (i + k) ≡ 0) → along f n i ≡ replicate n 0
along_zeros f n i e =
    ext_get_or 0 (along f n i) (replicate n 0) (length-along f n i ∙ sym (length-replicate n 0)) (λ k h.
    let l : k < n = rw length-along at h in
    get_or-along f n i k l ∙ e k l ∙ sym (get_or-replicate n k 0 0 l))

pub record Filled (f : ℕ → ℕ) (n k : ℕ) (l : List ℕ) : Type 0 where
  pub size : length l ≡ n
  pub done : (i : ℕ) → i < k → get_or l i 0 ≡ f i
  pub left : (i : ℕ) → k ≤ i → i < n → get_or l i 0 ≡ 0

pub Filled-zeros : (f : ℕ → ℕ) (n k : ℕ) → k ≤ n → ((i : ℕ) → i < k → f i ≡ 0) → Filled f n k (replicate n 0)
Filled-zeros f n k h z =
    record {
      size = length-replicate n 0;
      done = λ i l. get_or-replicate n i 0 0 (omega arith) ∙ sym (z i l);
      left = λ i a b. get_or-replicate n i 0 0 b;
    }

pub Filled-set : (f : ℕ → ℕ) (n k : ℕ) (l : List ℕ) (x : ℕ) → k < n → x ≡ f k → Filled f n k l → Filled f n (suc k) (set l k x)
Filled-set f n k l x h e p =
    record {
      size = length-set l k x ∙ p.size;
      done = λ i a. elim (dec_lt i k) [
        | yes b ↦ get_or-set_other l k i x 0 (λ same. omega arith) ∙ p.done i b
        | no b ↦ let same : i ≡ k = omega arith in rw same (get_or-set_same l k x 0 (rw p.size h) ∙ e)
      ];
      left = λ i a b. get_or-set_other l k i x 0 (λ same. omega arith) ∙ p.left i (omega arith) b;
    }

-- a place that stays 0
pub Filled-skip : (f : ℕ → ℕ) (n k : ℕ) (l : List ℕ) → k < n → f k ≡ 0 → Filled f n k l → Filled f n (suc k) l
Filled-skip f n k l h e p =
    record {
      size = p.size;
      done = λ i a. elim (dec_lt i k) [
        | yes b ↦ p.done i b
        | no b ↦ let same : i ≡ k = omega arith in rw same (p.left k (omega arith) h ∙ sym e)
      ];
      left = λ i a b. p.left i (omega arith) b;
    }

pub along_of_Filled : (f : ℕ → ℕ) (n k : ℕ) (l : List ℕ) → Filled f n k l → ((i : ℕ) → k ≤ i → i < n → f i ≡ 0) → l ≡ along f n 0
along_of_Filled f n k l p z =
    ext_get_or 0 l (along f n 0) (p.size ∙ sym (length-along f n 0)) (λ i h.
    let b : i < n = rw p.size at h in
    elim (dec_lt i k) [
      | yes a ↦ p.done i a ∙ sym (rw zero-add at (get_or-along f n 0 i b))
      | no a ↦ p.left i (omega arith) b ∙ sym (z i (omega arith) b) ∙ sym (rw zero-add at (get_or-along f n 0 i b))
    ])
