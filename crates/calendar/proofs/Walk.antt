-- A test that runs along the months in one pass, the first day carried on from month to month: what antt computes of a whole list
-- holds of each entry (`walk-get_or`). A list that passes it with its entries for first days is the month table, or opens it
-- (`IsMonths_of_walk`), and of each length there is one (`IsMonths-unique`). `cycle` is such a test with no list, at the 4,800
-- months of one cycle (`cycle_at`).
-- Assumes nothing.
use mathlib.Core.Path.{◌≡◌, sym, ◌∙◌}
use mathlib.Core.Bool.{Bool, true, ◌&&◌}
use mathlib.Core.List.{List, [], ◌∷◌}
use Prim.Native.Nat.{ℕ, zero, suc, ◌+◌, ◌<◌}
use native.Mathlib.Nat.{add-zero, zero-add, add-suc, suc-add, le_of_suc-le-suc, not-suc-le-zero}
use lib.Dec.{T, eqb, eqb→eq}
use lib.ListN.{length, get_or, replicate, length-replicate}
use lib.Seq.{ext_get_or}
use mir.Facts.{and_yes}
use Rattle.calendar.specs.Calendar.{month_length, first_day}
use Rattle.calendar.specs.Table.{IsMonths}
use Rattle.calendar.proofs.Lengths.{first_day-zero, first_day-suc}

-- the test f, of a month, its first day and its entry, passes at each month from m on, whose first day is x
abbrev pub walk : (ℕ → ℕ → ℕ → Bool) → ℕ → ℕ → List ℕ → Bool
walk f m x [] = true
walk f m x (y ∷ ys) = f m x y && walk f (suc m) (x + month_length m) ys

walk-get_or_from : (f : ℕ → ℕ → ℕ → Bool) (ys : List ℕ) (m : ℕ) → T (walk f m (first_day m) ys) → (k : ℕ) → k < length ys → T (f (m + k) (first_day (m + k)) (get_or ys k 0))
walk-get_or_from f [] m t k h = absurd (not-suc-le-zero h)
walk-get_or_from f (y ∷ ys) m t zero h = rw add-zero (and_yes (f m (first_day m) y) (walk f (suc m) (first_day m + month_length m) ys) t).0
walk-get_or_from f (y ∷ ys) m t (suc k) h =
    rw (add-suc, ← suc-add)
    (walk-get_or_from f ys (suc m) (rw first_day-suc (and_yes (f m (first_day m) y) (walk f (suc m) (first_day m + month_length m) ys) t).1) k (le_of_suc-le-suc h))

walk-get_or : (f : ℕ → ℕ → ℕ → Bool) (ys : List ℕ) → T (walk f 0 0 ys) → (k : ℕ) → k < length ys → T (f k (first_day k) (get_or ys k 0))
walk-get_or f ys t k h =
    let z : T (walk f 0 (first_day 0) ys) = rw first_day-zero t in
    rw zero-add at (walk-get_or_from f ys 0 z k h)

-- the test of the table: an entry is its month's first day
abbrev is_first : ℕ → ℕ → ℕ → Bool
is_first m x y = eqb y x

pub IsMonths_of_walk : {t : List ℕ} → T (walk is_first 0 0 t) → IsMonths t
IsMonths_of_walk {t} w = record { entry = λ k h. eqb→eq (get_or t k 0) (first_day k) (walk-get_or is_first t w k h) }

-- and there is one such list of each length
pub IsMonths-unique : {t u : List ℕ} → length t ≡ length u → IsMonths t → IsMonths u → t ≡ u
IsMonths-unique {t} {u} e p q = ext_get_or 0 t u e (λ k h. p.entry k h ∙ sym (q.entry k (rw e at h)))

-- a test of a month and its first day, at the months of one cycle
abbrev pub cycle : (ℕ → ℕ → Bool) → Bool
cycle f = walk (λ m x y. f m x) 0 0 (replicate 4800 0)

pub cycle_at : (f : ℕ → ℕ → Bool) → T (cycle f) → (m : ℕ) → m < 4800 → T (f m (first_day m))
cycle_at f t m h = walk-get_or (λ m x y. f m x) (replicate 4800 0) t m (rw length-replicate h)
