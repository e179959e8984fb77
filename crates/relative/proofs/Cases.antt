-- The cases of `by_pairs` and `from`, by what the code has found: how many pairs there are, where the steps start.
-- Assumes nothing.
use Rattle.std.specs.Prelude.{Err, None, Ok, Option, Result, Some}
use Rattle.std.specs.Option.{ok_or}
use mathlib.Core.Path.{◌≡◌, refl, sym, ap, ◌∙◌}
use mathlib.Core.Bool.{Bool, true, false, ◌&&◌, ◌||◌}
use mathlib.Core.List.{List}
use Prim.Native.Nat.{ℕ, zero, suc, ◌≤◌, ◌<◌}
use native.Mathlib.Omega.{arith}
use borrow.Author.Tests.{lt-ltb, le-leb, lt-leb}
use lib.Dec.{ltb, eqb-suc-zero}
use lib.ListN.{length}
use Rattle.text.proofs.Lists.{by_test}
use Rattle.time.specs.Range.{time_in_range, time_of, moved_of}
use Rattle.time.specs.declared.Time.{Time as Moment}
use Rattle.time.specs.declared.Refusal.TheVariants.{Form, Current, Pairs as TooMany}
use Rattle.time.proofs.Ranges.{time_of-instant_of}
use Rattle.relative.specs.Pairs.{known, pairs_of, ago_in}
use Rattle.relative.specs.Steps.{steps}
use Rattle.relative.specs.Relative.{from, by_pairs}
use Rattle.relative.specs.Held.{counted_of, start_of}
use Rattle.relative.specs.declared.pair.Pair.{Pair}
use Rattle.time.specs.declared.range.Instant.{Instant}
use Rattle.time.specs.declared.Refusal.{Refusal}
use Rattle.time.specs.declared.Time.{Time}

-- ---- the count of pairs
nothing_of_counted : (n : ℕ) (allowed : Bool) → counted_of n allowed ≡ None → (ltb 0 n && allowed) ≡ false
unfolding counted_of
nothing_of_counted zero allowed e = refl
nothing_of_counted (suc n) true e = let z : ◌≡◌ {A = ℕ} 0 1 = cc (rw eqb-suc-zero at e) in absurd (omega arith)
nothing_of_counted (suc n) false e = rw (lt-ltb 0 (suc n) (omega arith))

pub pairs_of_counted : (n m : ℕ) (allowed : Bool) → counted_of n allowed ≡ Some m → ((ltb 0 n && allowed) ≡ true) × (n ≡ m)
unfolding counted_of
pairs_of_counted zero m allowed e = let z : ◌≡◌ {A = ℕ} 0 1 = cc in absurd (omega arith)
pairs_of_counted (suc n) m true e = let k : Some (suc n) ≡ Some m = rw eqb-suc-zero at e in (rw (lt-ltb 0 (suc n) (omega arith)), cc)
pairs_of_counted (suc n) m false e = let k : None ≡ Some m = rw eqb-suc-zero at e in let z : ◌≡◌ {A = ℕ} 0 1 = cc in absurd (omega arith)

-- the count as the scan leads to it
pub counted_of_scanned : {n : ℕ} {k a : Bool} {t : Option ℕ} (s : List ℕ) → n ≡ length (pairs_of s) → k ≡ known (pairs_of s) → a ≡ ago_in s → t ≡ counted_of n (k || a)
    → t ≡ counted_of (length (pairs_of s)) (known (pairs_of s) || ago_in s)
counted_of_scanned s e f g h = h ∙ (λ i. counted_of (e i) (f i || g i))

-- ---- the answer by that count
module _ (bound : ℕ) (s : List ℕ) (current : Option Time) (t : Option ℕ) (e : t ≡ counted_of (length (pairs_of s)) (known (pairs_of s) || ago_in s)) where
  -- no pair, or units that are not allowed: 2
  pub by_pairs_of_nothing : t ≡ None → by_pairs bound s current ≡ Err Form
  unfolding by_pairs
  by_pairs_of_nothing f = rw (nothing_of_counted (length (pairs_of s)) (known (pairs_of s) || ago_in s) (sym e ∙ f))

  -- n pairs: 5 if they are too many, and otherwise they are applied
  module _ {n : ℕ} (f : t ≡ Some n) where
    pub by_pairs_of_lt : bound < n → by_pairs bound s current ≡ Err TooMany
    unfolding by_pairs
    by_pairs_of_lt h = let p = pairs_of_counted (length (pairs_of s)) n (known (pairs_of s) || ago_in s) (sym e ∙ f) in rw (p.0, lt-leb (length (pairs_of s)) bound (omega (arith, p.1)))

    pub by_pairs_of_le : n ≤ bound → by_pairs bound s current ≡ from current (pairs_of s)
    unfolding by_pairs
    by_pairs_of_le h = let p = pairs_of_counted (length (pairs_of s)) n (known (pairs_of s) || ago_in s) (sym e ∙ f) in rw (p.0, le-leb (length (pairs_of s)) bound (omega (arith, p.1)))

-- ---- the start
abbrev by_start : List Pair → Result Instant Refusal → Result Time Refusal
by_start ps (Ok i) = steps ps (Ok (time_of i))
by_start ps (Err r) = Err r

from_start_of : (current : Option Time) (ps : List Pair) → from current ps ≡ by_start ps (start_of current)
unfolding from start_of
from_start_of None ps = refl
from_start_of (Some x) ps = by_test (time_in_range x) (λ e. rw (e, time_of-instant_of x e)) (λ e. rw e)

-- the same start, by the time as numbers from 0
pub start_of-moved_of : (x : Moment) → start_of (Some x) ≡ ok_or (moved_of x) Current
unfolding start_of moved_of
start_of-moved_of x = by_test (time_in_range x) (λ e. rw e) (λ e. rw e)

-- by the start that the code found
pub from_of_start : (current : Option Time) (ps : List Pair) (t : Result Instant Refusal) → t ≡ start_of current → from current ps ≡ by_start ps t
from_of_start current ps t e = from_start_of current ps ∙ ap (by_start ps) (sym e)
