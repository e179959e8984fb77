-- RULES 7.10: a step is refused by 6 exactly when its landing, computed on whole numbers, is out of range. RULES 12.4: a text of
-- one pair of months or years goes back exactly its count of months. The contracts of `parse` and `parse_with` carry both to the
-- code.
-- Assumes nothing.
use Rattle.std.specs.Prelude.{Err, Ok, Some}
use mathlib.Core.Path.{◌≡◌, refl, ap, ◌∙◌}
use mathlib.Core.Logic.{◌↔◌}
use mathlib.Core.Bool.{true, false}
use mathlib.Core.List.{List}
use Prim.Native.Nat.{ℕ, ◌*◌, ◌≤◌, ◌<◌}
use native.Mathlib.Nat.{mul-one}
use native.Mathlib.Omega.{arith}
use lib.IntN.{ℤ}
use lib.ListN.{length}
use Rattle.text.proofs.Lists.{by_test}
use Rattle.time.specs.Answers.{time_at}
use Rattle.time.specs.Range.{seconds_in_range, time_in_range}
use Rattle.time.specs.declared.Time.{Time}
use Rattle.time.specs.declared.Refusal.TheVariants.{Range}
use Rattle.relative.specs.Pairs.{pairs_of, ago_in, is_known, known}
use Rattle.relative.specs.Steps.{landing, landed, step, steps}
use Rattle.relative.specs.Relative.{from, relative_of}
use Rattle.relative.specs.Months.{date_at, clock_at, earlier_date, seconds_at, OnePair}
use Rattle.relative.specs.declared.pair.Unit.{Unit}
use Rattle.relative.specs.declared.pair.Unit.TheVariants.{Months}
use Rattle.relative.specs.declared.pair.Pair.{Pair}
use Rattle.relative.proofs.Texts.{landing_unmarked}
use Rattle.relative.proofs.Named.{relative_of_of_pairs}
use Rattle.relative.proofs.Dates.{months_earlier-seconds_at}
use Rattle.relative.proofs.Joining.{known-or}

-- ---- one step
-- a landing is refused exactly when it is out of range, and otherwise is the answer
landed_refused : (z o : ℤ) → (landed z o ≡ Err Range) ↔ (seconds_in_range z ≡ false)
unfolding landed
landed_refused z o = (
  by_test (seconds_in_range z) (λ e h. let k : Ok (time_at z o) ≡ Err Range = rw e at h in let n : ◌≡◌ {A = ℕ} 0 1 = cc in absurd (omega arith)) (λ e h. e),
  (λ e. rw e),
)

pub landed_answered : (z o : ℤ) (y : Time) → landed z o ≡ Ok y → time_at z o ≡ y
unfolding landed
landed_answered z o y =
    by_test (seconds_in_range z)
    (λ e h. let k : Ok (time_at z o) ≡ Ok y = rw e at h in cc)
    (λ e h. let k : Err Range ≡ Ok y = rw e at h in let n : ◌≡◌ {A = ℕ} 0 1 = cc in absurd (omega arith))

pub step-refused_exactly_out_of_range : (p : Pair) (x : Time) → (step p (Ok x) ≡ Err Range) ↔ (seconds_in_range (landing x p.count p.unit) ≡ false)
unfolding step
step-refused_exactly_out_of_range p x = landed_refused (landing x p.count p.unit) x.offset

pub step-lands_exactly : (p : Pair) (x y : Time) → step p (Ok x) ≡ Ok y → time_at (landing x p.count p.unit) x.offset ≡ y
unfolding step
step-lands_exactly p x y = landed_answered (landing x p.count p.unit) x.offset y

-- ---- a text of one pair
module _ (bound : ℕ) (l : 1 ≤ bound) (s : List ℕ) (n : ℕ) (x : Time) (c : time_in_range x ≡ true) where
  -- its answer is its landing, or 6 if that is out of range: no other refusal is possible
  pub one-pair_lands_exactly : (u : Unit) → is_known u ≡ true → OnePair s n u → relative_of bound s (Some x) ≡ landed (landing x n u) x.offset
  unfolding known from steps step
  one-pair_lands_exactly u k p =
      let some : 0 < length (pairs_of s) = rw p.pair (omega arith) in
      let all : known (pairs_of s) ≡ true = rw (p.pair, k) in
      let few : length (pairs_of s) ≤ bound = rw p.pair l in
      relative_of_of_pairs bound s (Some x) p.plain some (known-or (known (pairs_of s)) (ago_in s) all) few ∙ rw (p.pair, c) (ap (λ (z : ℤ). landed z x.offset) (landing_unmarked x n u))

  months_land : (k : ℕ) → OnePair s n (Months k) → relative_of bound s (Some x) ≡ landed (seconds_at (earlier_date (date_at x) (n * k)) (clock_at x) x.offset) x.offset
  unfolding landing
  months_land k p = one-pair_lands_exactly (Months k) refl p ∙ ap (λ (z : ℤ). landed z x.offset) (months_earlier-seconds_at x (n * k))

  -- of n months: the instant of the date n months earlier, at the same clock and offset, if it is in range, and else 6
  pub relative_months : OnePair s n (Months 1) → relative_of bound s (Some x) ≡ landed (seconds_at (earlier_date (date_at x) n) (clock_at x) x.offset) x.offset
  relative_months p = rw mul-one at (months_land 1 p)

  -- of n years: the same of 12 n months
  pub relative_years : OnePair s n (Months 12) → relative_of bound s (Some x) ≡ landed (seconds_at (earlier_date (date_at x) (n * 12)) (clock_at x) x.offset) x.offset
  relative_years = months_land 12
