-- Two texts in a row: their pairs and steps; an answer in range. In order: pairs; steps; what steps keep; the numbers that pairs give; what
-- the answer of a text keeps.
-- Assumes nothing.
use Rattle.std.specs.Prelude.{Err, None, Ok, Option, Result, Some}
use mathlib.Core.Path.{◌≡◌, refl}
use mathlib.Core.Bool.{true, false, ◌&&◌, ◌||◌}
use mathlib.Core.List.{List, [], ◌∷◌, ◌++◌}
use Prim.Native.Nat.{ℕ}
use lib.Dec.{eqb, leb, ltb}
use lib.IntN.{ℤ}
use lib.ListN.{length}
use Rattle.text.specs.Bytes.{ascii}
use Rattle.text.proofs.Lists.{by_test, both}
use Rattle.time.specs.Answers.{unmarked, answer_number}
use Rattle.time.specs.Range.{seconds_in_range, offset_in_range, time_in_range}
use Rattle.time.specs.declared.Time.{Time as TimeValue}
use Rattle.time.specs.declared.Refusal.{Refusal}
use Rattle.time.specs.declared.Refusal.TheVariants.{NotAscii, Form, Pairs}
use Rattle.relative.specs.Pairs.{next, pairs_from, known, is_known, pairs_of, ago_in}
use Rattle.relative.specs.Steps.{landing, landed, months_earlier, step, steps}
use Rattle.relative.specs.Relative.{from, named_of, by_pairs, answer_by_name, relative_of}
use Rattle.relative.specs.declared.pair.Unit.{Unit as PairUnit}
use Rattle.relative.specs.declared.pair.Unit.TheVariants.{Seconds, Months, Unknown}
use Rattle.relative.specs.Joined.{waits_from}
use Rattle.relative.specs.declared.pair.Pair.{Pair}
use Rattle.time.specs.declared.Time.{Time}

-- ---- pairs
pub pairs_from-append : (c : Option ℕ) (a b : List (List ℕ)) → pairs_from c (a ++ b) ≡ pairs_from c a ++ pairs_from (waits_from c a) b
unfolding pairs_from waits_from
pairs_from-append c [] b = refl
pairs_from-append (Some n) (w ∷ a) b = rw (pairs_from-append None a b)
pairs_from-append None (w ∷ a) b = pairs_from-append (next None w) a b

pub waits_from-append : (c : Option ℕ) (a b : List (List ℕ)) → waits_from c (a ++ b) ≡ waits_from (waits_from c a) b
unfolding waits_from
waits_from-append c [] b = refl
waits_from-append c (w ∷ a) b = waits_from-append (next c w) a b

pub known-append : (a b : List Pair) → known (a ++ b) ≡ (known a && known b)
unfolding known
known-append [] b = refl
known-append (p ∷ a) b = by_test (is_known p.unit) (λ e. rw e (known-append a b)) (λ e. rw e)

-- ---- steps
pub steps-append : (a b : List Pair) (x : Result Time Refusal) → steps (a ++ b) x ≡ steps b (steps a x)
unfolding steps
steps-append [] b x = refl
steps-append (p ∷ a) b x = steps-append a b (step p x)

-- a refusal stays
pub steps_refused : (ps : List Pair) (r : Refusal) → steps ps (Err r) ≡ Err r
unfolding steps step
steps_refused [] r = refl
steps_refused (p ∷ ps) r = steps_refused ps r

-- ---- what every step keeps, all of them keep
steps_keep : (P : Result Time Refusal → Type 0) → ((p : Pair) (x : Result Time Refusal) → P x → P (step p x)) → (ps : List Pair) (x : Result Time Refusal) → P x → P (steps ps x)
unfolding steps
steps_keep P k [] x h = h
steps_keep P k (p ∷ ps) x h = steps_keep P k ps (step p x) (k p x h)

-- an answer in range
abbrev pub Good : Result Time Refusal → Type 0
Good (Ok x) = time_in_range x ≡ true
Good (Err r) = Unit {0}

landed_good : (z o : ℤ) → offset_in_range o ≡ true → Good (landed z o)
unfolding landed time_in_range
landed_good z o h = by_test (seconds_in_range z) (λ e. rw e (rw e h)) (λ e. rw e tt)

step-good : (p : Pair) (x : Result Time Refusal) → Good x → Good (step p x)
unfolding step time_in_range
step-good p (Ok x) g = landed_good (landing x p.count p.unit) x.offset (both (seconds_in_range x.seconds) (offset_in_range x.offset) g).1
step-good p (Err r) g = tt

pub steps_good : (a : List Pair) (x : Result Time Refusal) → Good x → Good (steps a x)
steps_good = steps_keep Good step-good

-- an answer without the mark, which every step gives
abbrev pub Clear : Result Time Refusal → Type 0
Clear (Ok x) = x.mark ≡ false
Clear (Err r) = Unit {0}

landed_clear : (z o : ℤ) → Clear (landed z o)
unfolding landed
landed_clear z o = by_test (seconds_in_range z) (λ e. rw e refl) (λ e. rw e tt)

step_clear : (p : Pair) (x : Result Time Refusal) → Clear (step p x)
unfolding step
step_clear p (Ok x) = landed_clear (landing x p.count p.unit) x.offset
step_clear p (Err r) = tt

pub steps_clear : (a : List Pair) (x : Result Time Refusal) → Clear x → Clear (steps a x)
steps_clear = steps_keep Clear (λ p x c. step_clear p x)

-- a landing does not depend on the mark
pub landing_unmarked : (x : TimeValue) (n : ℕ) (u : PairUnit) → landing (unmarked x) n u ≡ landing x n u
unfolding landing months_earlier
landing_unmarked x n (Seconds k) = refl
landing_unmarked x n (Months k) = refl
landing_unmarked x n Unknown = refl

-- ---- pairs applied from the current time give a time, 3, 4 or 6
abbrev IsNumbered : Result Time Refusal → Type 0
IsNumbered x = let n : ℕ = answer_number x in (eqb n 0 || (eqb n 3 || (eqb n 4 || eqb n 6))) ≡ true

step-number : (p : Pair) (x : Result Time Refusal) → IsNumbered x → IsNumbered (step p x)
unfolding step landed
step-number p (Ok x) h = by_test (seconds_in_range (landing x p.count p.unit)) (λ e. rw e refl) (λ e. rw e refl)
step-number p (Err r) h = h

pub from_number : (current : Option Time) (ps : List Pair) → IsNumbered (from current ps)
unfolding from
from_number None ps = refl
from_number (Some x) ps = by_test (time_in_range x) (λ e. rw e (steps_keep IsNumbered step-number ps (Ok (unmarked x)) refl)) (λ e. rw e refl)

-- ---- a text answers 1, 2 or 5, or what its pairs give
pub relative_of-keeps : (P : Result Time Refusal → Type 0) (bound : ℕ) (s : List ℕ) (current : Option Time) → P (Err NotAscii) → P (Err Form) → P (Err Pairs) → ((ps : List Pair) → P (from current ps)) → P (relative_of bound s current)
unfolding relative_of by_pairs
relative_of-keeps P bound s current one two five h = by_test (ascii s) (λ a. rw a (by_name (named_of s))) (λ a. rw a one)
  where
    by_name : (x : Option ℕ) → P (answer_by_name x bound s current)
    by_name (Some k) = h (record { count = k; unit = Seconds 1 } ∷ [])
    by_name None =
        let ps = pairs_of s in
        by_test (ltb 0 (length ps) && (known ps || ago_in s)) (λ e. by_test (leb (length ps) bound) (λ l. rw (e, l) (h ps)) (λ l. rw (e, l) five)) (λ e. rw e two)

-- only a current time in range is answered with a time
abbrev InRangeIfAnswered : TimeValue → Result Time Refusal → Type 0
InRangeIfAnswered x (Ok a) = time_in_range x ≡ true
InRangeIfAnswered x (Err r) = Unit {0}

pub in_range_of_answered : (bound : ℕ) (s : List ℕ) (x a : TimeValue) → relative_of bound s (Some x) ≡ Ok a → time_in_range x ≡ true
unfolding from
in_range_of_answered bound s x a e =
    rw e at (relative_of-keeps (InRangeIfAnswered x) bound s (Some x) tt tt tt (λ ps. by_test (time_in_range x) (λ c. if_answered c (from (Some x) ps)) (λ c. rw c tt)))
  where
    if_answered : time_in_range x ≡ true → (z : Result Time Refusal) → InRangeIfAnswered x z
    if_answered c (Ok a) = c
    if_answered c (Err r) = tt
