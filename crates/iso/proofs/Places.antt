-- A text without a byte b: its bytes read one by one from a place on, and held.
-- Assumes nothing.
use mathlib.Core.Path.{◌≡◌, ap}
use mathlib.Core.Bool.{true, false}
use mathlib.Core.List.{List, [], ◌∷◌, ◌++◌, append-nil}
use Prim.Native.Nat.{ℕ, ◌+◌, ◌≤◌, ◌<◌}
use native.Mathlib.Omega.{arith}
use native.Mathlib.Numerals.{add-one}
use lib.Dec.{eqb}
use lib.ListN.{length, get_or, take, drop, set, drop_of_length-le, length-append}
use lib.Seq.{length-take-le, take-suc-set, append_snoc}
use Rattle.text.proofs.Lists.{drop-cons-add-one}
use Rattle.iso.specs.Parts.{without}

without_drop-eq : (b : ℕ) (s : List ℕ) (i : ℕ) → i < length s → eqb (get_or s i 0) b ≡ true → without b (drop i s) ≡ without b (drop (i + 1) s)
unfolding without
without_drop-eq b s i h e = rw (drop-cons-add-one s i h, e)

without_drop-ne : (b : ℕ) (s : List ℕ) (i : ℕ) → i < length s → eqb (get_or s i 0) b ≡ false → without b (drop i s) ≡ get_or s i 0 ∷ without b (drop (i + 1) s)
unfolding without
without_drop-ne b s i h e = rw (drop-cons-add-one s i h, e)

-- its bytes read one by one: the first n of f hold what came before i
module _ (b : ℕ) (s : List ℕ) (i : ℕ) (h : i < length s) {l : List ℕ} (f : List ℕ) (n : ℕ) (r : l ≡ take n f ++ without b (drop i s)) where
  pub kept_skip : eqb (get_or s i 0) b ≡ true → l ≡ take n f ++ without b (drop (i + 1) s)
  kept_skip e = rw (without_drop-eq b s i h e) at r

  pub kept_on : eqb (get_or s i 0) b ≡ false → n < length f → l ≡ take (n + 1) (set f n (get_or s i 0)) ++ without b (drop (i + 1) s)
  kept_on e k =
      let q : take (n + 1) (set f n (get_or s i 0)) ≡ take n f ++ (get_or s i 0 ∷ []) = rw add-one (take-suc-set f n (get_or s i 0) k) in
      rw (q, append_snoc) (rw (without_drop-ne b s i h e) at r)

  -- a byte more than f holds
  pub kept_over : eqb (get_or s i 0) b ≡ false → n ≤ length f → n < length l
  kept_over e k =
      let q : l ≡ take n f ++ (get_or s i 0 ∷ without b (drop (i + 1) s)) = rw (without_drop-ne b s i h e) at r in
      omega (arith, ap length q, length-append (take n f) (get_or s i 0 ∷ without b (drop (i + 1) s)), length-take-le n f k)

pub kept_end : (b : ℕ) (s : List ℕ) (i : ℕ) {l : List ℕ} (f : List ℕ) (n : ℕ) → l ≡ take n f ++ without b (drop i s) → length s ≤ i → l ≡ take n f
unfolding without
kept_end b s i f n r h = rw (drop_of_length-le s h, append-nil) at r
