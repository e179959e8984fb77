-- RULES 7.1, 7.8: `now` is the current time, `yesterday` is one day, and the order of units of seconds does not matter. The
-- contracts of `parse` and `parse_with` carry this to the code.
-- Assumes nothing.
use Rattle.std.specs.Prelude.{None, Ok, Option, Some}
use mathlib.Core.Path.{◌≡◌, refl, sym, ap, ◌∙◌}
use mathlib.Core.Bool.{true, false, ◌||◌, false≢true, and-true}
use mathlib.Core.List.{List, [], ◌∷◌, ◌++◌}
use Prim.Native.String.{String}
use Prim.Native.Nat.{ℕ, ◌+◌, ◌*◌, ◌≤◌, ◌<◌}
use native.Mathlib.Omega.{arith}
use lib.IntN.{ℤ, pos, neg_ℤ, ◌-ℤ◌, +ℤ_idr}
use lib.Signed.{le_z, ◌≤ℤ◌, ◌<ℤ◌}
use lib.ListN.{length, length-append}
use Rattle.ints.proofs.Parts.{add_parts, up_neg, dn-neg, parts-le, le_parts, parts-lt, lt-parts, sub-sub}
use Rattle.ints.proofs.Machine.{lit, le_no, le_z-true, In_of_is_in}
use Rattle.text.specs.Bytes.{is_digit, is_alphanumeric, lower_of, ascii, same_letters}
use Rattle.text.specs.Quote.{bytes}
use Rattle.text.specs.Trim.{trim}
use Rattle.text.specs.Number.{digits_of, read_from, fit}
use Rattle.text.specs.Words.{words, pieces, full}
use Rattle.text.proofs.Lists.{by_test, both, same_letters_of_length, length_of_same}
use Rattle.time.specs.Answers.{time_at, unmarked}
use Rattle.time.specs.Range.{least_seconds, most_seconds, seconds_in_range, offset_in_range, time_in_range}
use Rattle.time.specs.declared.Time.{Time}
use Rattle.time.specs.declared.Refusal.TheVariants.{Range}
use Rattle.relative.specs.Words.{words_of, is, spelled, count_of, singular, unit_named, unit_of}
use Rattle.relative.specs.Pairs.{pairs_from, pairs_of, ago_in, known}
use Rattle.relative.specs.Steps.{landing, landed, step, steps}
use Rattle.relative.specs.Relative.{from, named_of, relative_of}
use Rattle.relative.specs.Joined.{Joinable, joined_by_space, is_seconds, all_seconds}
use Rattle.relative.specs.Months.{OnePair}
use Rattle.relative.specs.declared.pair.Unit.{Unit}
use Rattle.relative.specs.declared.pair.Unit.TheVariants.{Seconds, Months, Unknown}
use Rattle.relative.specs.declared.pair.Pair.{Pair}
use Rattle.relative.proofs.Landing.{landed_of_lt}
use Rattle.relative.proofs.Texts.{steps_refused}
use Rattle.relative.proofs.Named.{relative_of_of_pairs}
use Rattle.relative.proofs.Joining.{known-or, answer_of_whole, joined_pairs, joined_whole}

-- ---- `now` and `today`
seconds_in_range_of_time : (x : Time) → time_in_range x ≡ true → seconds_in_range x.seconds ≡ true
unfolding time_in_range
seconds_in_range_of_time x c = (both (seconds_in_range x.seconds) (offset_in_range x.offset) c).0

-- alone, trimmed, in any letter case, they are the current time, without its mark
pub now_is_the_current_time : (bound : ℕ) (s : List ℕ) (x : Time) → ascii s ≡ true → (is (trim s) "now" || is (trim s) "today") ≡ true → time_in_range x ≡ true → relative_of bound s (Some x) ≡ Ok (unmarked x)
unfolding relative_of named_of from steps step landing landed
now_is_the_current_time bound s x a e c = rw (a, e, c, +ℤ_idr x.seconds, seconds_in_range_of_time x c)

-- ---- `yesterday`
-- a text as long as another is not one of another length
not_is : (t : List ℕ) (u v : String) → (length (bytes u) ≡ length (bytes v) → ⊥) → is t u ≡ true → is t v ≡ false
not_is t u v h e = same_letters_of_length t (bytes v) (λ f. h (sym (length_of_same t (bytes u) e) ∙ f))

named_of-yesterday : (s : List ℕ) → is (trim s) "yesterday" ≡ true → named_of s ≡ Some 86400
unfolding named_of
named_of-yesterday s e =
    rw (not_is (trim s) "yesterday" "now" (λ h. omega arith) e, not_is (trim s) "yesterday" "today" (λ h. omega arith) e, e)

from_day : (current : Option Time) → from current (record { count = 86400; unit = Seconds 1 } ∷ []) ≡ from current (record { count = 1; unit = Seconds 86400 } ∷ [])
unfolding from steps step landing
from_day None = refl
from_day (Some x) = refl

one-day : OnePair (bytes "1 day") 1 (Seconds 86400)
unfolding ascii words_of is_alphanumeric words full pieces pairs_from same_letters lower_of count_of spelled fit digits_of read_from is_digit unit_of unit_named singular
one-day = record { plain = refl; pair = refl }

-- alone, trimmed, in any letter case, it answers as `1 day` does
pub yesterday_is_one-day : (bound : ℕ) → 1 ≤ bound → (s : List ℕ) (current : Option Time) → ascii s ≡ true → is (trim s) "yesterday" ≡ true → relative_of bound s current ≡ relative_of bound (bytes "1 day") current
unfolding relative_of known
yesterday_is_one-day bound l s current a e =
    let d = bytes "1 day" in
    let some : 0 < length (pairs_of d) = rw one-day.pair (omega arith) in
    let all : known (pairs_of d) ≡ true = rw one-day.pair in
    let few : length (pairs_of d) ≤ bound = rw one-day.pair l in
    rw (a, named_of-yesterday s e) (from_day current ∙ ap (from current) (sym one-day.pair) ∙ sym (relative_of_of_pairs bound d current one-day.plain some (known-or (known (pairs_of d)) (ago_in d) all) few))

-- ---- the order of seconds units
-- the seconds of a unit, and of pairs
abbrev size : Unit → ℕ
size (Seconds k) = k
size (Months k) = 0
size Unknown = 0

total : List Pair → ℕ
total [] = 0
total (p ∷ ps) = p.count * size p.unit + total ps

landing_size : (x : Time) (n : ℕ) (u : Unit) → is_seconds u ≡ true → landing x n u ≡ x.seconds -ℤ pos (n * size u)
unfolding landing
landing_size x n (Seconds k) e = refl
landing_size x n (Months k) e = absurd (false≢true e)
landing_size x n Unknown e = absurd (false≢true e)

-- what is not in range and not above it is below it
seconds_in_range-lt : (z : ℤ) (n : ℕ) → z ≤ℤ most_seconds → seconds_in_range (z -ℤ pos n) ≡ false → (z -ℤ pos n) <ℤ least_seconds
unfolding seconds_in_range
seconds_in_range-lt z n h e =
    let y = z -ℤ pos n in
    let k : y ≤ℤ most_seconds = parts-le _ _ (omega (arith, le_parts h, add_parts z (neg_ℤ (pos n)), up_neg (pos n), dn-neg (pos n))) in
    le_no (lit least_seconds) (lit y) (sym (and-true (le_z least_seconds y)) ∙ (rw (le_z-true k) at e))

sub-lt : (z : ℤ) (a b : ℕ) → (z -ℤ pos a) <ℤ least_seconds → (z -ℤ pos (a + b)) <ℤ least_seconds
sub-lt z a b h = parts-lt _ _ (omega (arith, lt-parts h, add_parts z (neg_ℤ (pos a)), add_parts z (neg_ℤ (pos (a + b))), up_neg (pos a), dn-neg (pos a), up_neg (pos (a + b)), dn-neg (pos (a + b))))

seconds-le : (z : ℤ) → seconds_in_range z ≡ true → z ≤ℤ most_seconds
unfolding seconds_in_range
seconds-le z e = (In_of_is_in least_seconds most_seconds z e).high

-- pairs of seconds units land where their sum does: a step that leaves the range is not made good by a later one
steps_total : (ps : List Pair) (x : Time) → all_seconds ps ≡ true → time_in_range x ≡ true → steps ps (Ok (unmarked x)) ≡ landed (x.seconds -ℤ pos (total ps)) x.offset
unfolding all_seconds time_in_range steps step landed total
steps_total [] x h c = rw (+ℤ_idr x.seconds, (both (seconds_in_range x.seconds) (offset_in_range x.offset) c).0)
steps_total (p ∷ ps) x h c =
    let r = both (seconds_in_range x.seconds) (offset_in_range x.offset) c in
    let k = both (is_seconds p.unit) (all_seconds ps) h in
    let a : ℕ = p.count * size p.unit in
    let y : Time = time_at (x.seconds -ℤ pos a) x.offset in
    rw (landing_size (unmarked x) p.count p.unit k.0)
    (by_test (seconds_in_range (x.seconds -ℤ pos a))
    (λ e.
    let g : time_in_range y ≡ true = rw (e, r.1) in
    rw (e, steps_total ps y k.1 g, sub-sub x.seconds a (total ps)))
    (λ e.
    let low = seconds_in_range-lt x.seconds a (seconds-le x.seconds r.0) e in
    rw e (steps_refused ps Range ∙ sym (landed_of_lt (x.seconds -ℤ pos (a + total ps)) x.offset (sub-lt x.seconds a (total ps) low)))))

total-append : (ps qs : List Pair) → total (ps ++ qs) ≡ total ps + total qs
unfolding total
total-append [] qs = omega arith
total-append (p ∷ ps) qs = omega (arith, total-append ps qs)

all_seconds-append : (ps qs : List Pair) → all_seconds ps ≡ true → all_seconds qs ≡ true → all_seconds (ps ++ qs) ≡ true
unfolding all_seconds
all_seconds-append [] qs h k = k
all_seconds-append (p ∷ ps) qs h k = let l = both (is_seconds p.unit) (all_seconds ps) h in rw l.0 (all_seconds-append ps qs l.1 k)

module _ (bound : ℕ) (x : Time) (c : time_in_range x ≡ true) where
  seconds_in_order : (a b : List ℕ) → Joinable a → Joinable b → all_seconds (pairs_of a) ≡ true → all_seconds (pairs_of b) ≡ true → length (pairs_of a) + length (pairs_of b) ≤ bound
      → relative_of bound (joined_by_space a b) (Some x) ≡ landed (x.seconds -ℤ pos (total (pairs_of a) + total (pairs_of b))) x.offset
  unfolding from
  seconds_in_order a b v w p q h =
      let few : length (pairs_of (joined_by_space a b)) ≤ bound = rw (joined_pairs a b v) (omega (arith, length-append (pairs_of a) (pairs_of b))) in
      answer_of_whole bound (joined_by_space a b) (Some x) (joined_whole a b v w) few ∙ rw (joined_pairs a b v, c, steps_total (pairs_of a ++ pairs_of b) x (all_seconds-append (pairs_of a) (pairs_of b) p q) c, total-append (pairs_of a) (pairs_of b))

  -- two texts of seconds units answer alike in either order, refusals too
  pub seconds_units_commute : (a b : List ℕ) → Joinable a → Joinable b → all_seconds (pairs_of a) ≡ true → all_seconds (pairs_of b) ≡ true → length (pairs_of a) + length (pairs_of b) ≤ bound
      → relative_of bound (joined_by_space a b) (Some x) ≡ relative_of bound (joined_by_space b a) (Some x)
  seconds_units_commute a b v w p q h =
      let e : total (pairs_of a) + total (pairs_of b) ≡ total (pairs_of b) + total (pairs_of a) = omega arith in
      seconds_in_order a b v w p q h ∙ ap (λ (n : ℕ). landed (x.seconds -ℤ pos n) x.offset) e ∙ sym (seconds_in_order b a w v q p (omega arith))
