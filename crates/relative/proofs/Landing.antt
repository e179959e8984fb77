-- Where steps land, as the code computes it on numbers from 0 and as the definitions say it on whole numbers. In order: landings
-- below the range; seconds; the months before month 0; months.
-- Assumes nothing.
use Rattle.std.specs.Prelude.{Err, None, Option, Some}
use mathlib.Core.Path.{◌≡◌, refl}
use Prim.Native.Nat.{ℕ, suc, ◌+◌, ◌-◌, ◌*◌, ◌/◌, ◌%◌, ◌≤◌, ◌<◌}
use native.Mathlib.Omega.{arith}
use borrow.Author.Tests.{leb-true, leb-false}
use lib.Dec.{leb}
use lib.IntN.{ℤ, pos, negsuc, neg_ℤ, ◌+ℤ◌, ◌-ℤ◌, ◌*ℤ◌}
use lib.Signed.{◌≤ℤ◌, ◌<ℤ◌}
use Rattle.ints.proofs.Parts.{add_parts, up_neg, dn-neg, up-mul, dn-mul, nat_abs-parts, one-dn, parts-eq, parts-lt, parts-le, le_parts, pos-sub, pos-sub-lt}
use Rattle.ints.proofs.Machine.{is_in_of_lt}
use Rattle.text.proofs.Lists.{by_test}
use Rattle.calendar.specs.Calendar.{first_day, month_of}
use Rattle.calendar.specs.Back.{months_back, back_of}
use Rattle.calendar.proofs.Lengths.{first_day-zero}
use Rattle.calendar.proofs.Cycle.{first_day-le, first_day-add-4800}
use Rattle.calendar.proofs.Dates.{IsDate-month_of, IsDate-day-lt, IsDate-month-lt}
use Rattle.time.specs.Range.{least_seconds, most_seconds, seconds_in_range, since1970, time_of, InRange}
use Rattle.time.specs.declared.Time.{Time}
use Rattle.time.specs.declared.range.Instant.{Instant}
use Rattle.time.specs.declared.Refusal.TheVariants.{Range}
use Rattle.relative.specs.Steps.{local_seconds, month_start, months_earlier, landed}

-- ---- below the range
pub landed_of_lt : (z o : ℤ) → z <ℤ least_seconds → landed z o ≡ Err Range
unfolding landed seconds_in_range
landed_of_lt z o h = rw (is_in_of_lt least_seconds most_seconds h)

-- ---- seconds
-- a difference below 0 is below the range
pub seconds_far : (t m : ℕ) (o : ℤ) → t < m → landed (since1970 t -ℤ pos m) o ≡ Err Range
seconds_far t m o l =
    landed_of_lt _ o (parts-lt _ _ (omega (arith, add_parts (since1970 t) (neg_ℤ (pos m)), add_parts (pos t) (negsuc 377736739199), up_neg (pos m), dn-neg (pos m))))

-- ---- months
-- months before month 0 begin before day 0
month_start-negsuc : (j : ℕ) → month_start (negsuc j) ≤ℤ pos 0
unfolding month_start
month_start-negsuc j =
    let a = first_day-le (4799 - j % 4800) 4800 (omega arith) in
    let b = first_day-add-4800 0 in
    let n : ℕ = (j / 4800 + 1) * 146097 in
    parts-le _ _ (omega (arith, a, b, first_day-zero, add_parts (pos (first_day (4799 - j % 4800))) (neg_ℤ (pos n)), up_neg (pos n), dn-neg (pos n)))

-- the local clock, counted from 0
local_seconds-time_of : (i : Instant) → InRange i → local_seconds (time_of i) ≡ i.seconds + i.offset - 93600
local_seconds-time_of i r =
    let s : ℤ = since1970 i.seconds in
    let o : ℤ = pos i.offset -ℤ pos 93600 in
    omega (arith, r.early, one-dn (s +ℤ o +ℤ pos 377736739200), nat_abs-parts (s +ℤ o +ℤ pos 377736739200), add_parts (s +ℤ o) (pos 377736739200), add_parts s o, add_parts (pos i.seconds) (negsuc 377736739199), add_parts (pos i.offset) (negsuc 93599))

-- if the calendar counts a month n months before, the landing is the calendar's
months_earlier_is : (x : Time) (n : ℕ) → n ≤ month_of (local_seconds x / 86400) → months_earlier x n ≡ pos (months_back (local_seconds x) n) -ℤ pos 377736739200 -ℤ x.offset
unfolding months_earlier months_back month_start
months_earlier_is x n h = rw (pos-sub (month_of (local_seconds x / 86400)) n h)

pub months_earlier_of_le : (i : Instant) (n : ℕ) → InRange i → let t : ℕ = i.seconds + i.offset - 93600 in n ≤ month_of (t / 86400)
    → months_earlier (time_of i) n ≡ pos (months_back t n) -ℤ pos 377736739200 -ℤ (pos i.offset -ℤ pos 93600)
months_earlier_of_le i n r = rw (local_seconds-time_of i r) at (months_earlier_is (time_of i) n)

-- if it counts none, the landing is below the range
module _ (m : ℤ) (k c : ℕ) (o : ℤ) (h : m ≤ℤ pos 0) (a : k < 31) (b : c < 86400) (e : negsuc 93598 ≤ℤ o) where
  before_range : ((m +ℤ pos k) *ℤ pos 86400 +ℤ pos c -ℤ pos 377736739200 -ℤ o) <ℤ least_seconds
  before_range =
      let p : ℤ = m +ℤ pos k in
      let q : ℤ = p *ℤ pos 86400 in
      let s : ℤ = q +ℤ pos c in
      let t : ℤ = s -ℤ pos 377736739200 in
      parts-lt _ _ (omega (arith, le_parts h, le_parts e, add_parts m (pos k), up-mul p 86400, dn-mul p 86400, add_parts q (pos c), add_parts s (negsuc 377736739199), add_parts t (neg_ℤ o), up_neg o, dn-neg o))

pub landed_of_month-lt : (i : Instant) (n : ℕ) (z : ℤ) → InRange i → month_of ((i.seconds + i.offset - 93600) / 86400) < n → landed (months_earlier (time_of i) n) z ≡ Err Range
unfolding months_earlier
landed_of_month-lt i n z r h =
    let t : ℕ = i.seconds + i.offset - 93600 in
    let d : ℕ = t / 86400 in
    let o : negsuc 93598 ≤ℤ (pos i.offset -ℤ pos 93600) = parts-le _ _ (omega (arith, r.west, add_parts (pos i.offset) (negsuc 93599))) in
    let c : t % 86400 < 86400 = omega arith in
    landed_of_lt _ z (rw (local_seconds-time_of i r, pos-sub-lt (month_of d) n h) (before_range (month_start (negsuc (n - suc (month_of d)))) (d - first_day (month_of d)) (t % 86400) (pos i.offset -ℤ pos 93600) (month_start-negsuc _) (IsDate-day-lt (IsDate-month_of d)) c o))

-- the calendar's answer for n months before t: that time if so many months are counted, and nothing if not
abbrev pub IsBack : ℕ → ℕ → Option ℕ → Type 0
IsBack t n (Some l) = (n ≤ month_of (t / 86400)) × (l ≡ months_back t n)
IsBack t n None = month_of (t / 86400) < n

pub IsBack_of_back_of : (t n : ℕ) (b : Option ℕ) → b ≡ back_of t n → IsBack t n b
unfolding back_of
IsBack_of_back_of t n b e =
    rw e
    (by_test (leb n (month_of (t / 86400)))
    (λ f. rw f (leb-true n (month_of (t / 86400)) f, refl))
    (λ f. rw f (leb-false n (month_of (t / 86400)) f)))

-- more months than are counted up to the range's end
pub month-lt : (i : Instant) (n : ℕ) → InRange i → 240000 < n → month_of ((i.seconds + i.offset - 93600) / 86400) < n
month-lt i n r h =
    let d : ℕ = (i.seconds + i.offset - 93600) / 86400 in
    let m : month_of d < 240000 = IsDate-month-lt (IsDate-month_of d) (omega (arith, r.late, r.east)) in
    omega arith

-- a landing in local time, as seconds since 1970
pub since1970_local : (l o : ℕ) → o ≤ l + 93600 → since1970 (l + 93600 - o) ≡ pos l -ℤ pos 377736739200 -ℤ (pos o -ℤ pos 93600)
since1970_local l o h =
    let z : ℤ = pos o -ℤ pos 93600 in
    parts-eq _ _ (omega (arith, add_parts (pos (l + 93600 - o)) (negsuc 377736739199), add_parts (since1970 l) (neg_ℤ z), add_parts (pos l) (negsuc 377736739199), add_parts (pos o) (negsuc 93599), up_neg z, dn-neg z))

pub landed_local-lt : (l o : ℕ) (x : ℤ) → l + 93600 < o → o ≤ 187199 → landed (pos l -ℤ pos 377736739200 -ℤ (pos o -ℤ pos 93600)) x ≡ Err Range
landed_local-lt l o x h k =
    let z : ℤ = pos o -ℤ pos 93600 in
    landed_of_lt _ x (parts-lt _ _ (omega (arith, add_parts (since1970 l) (neg_ℤ z), add_parts (pos l) (negsuc 377736739199), add_parts (pos o) (negsuc 93599), up_neg z, dn-neg z)))
