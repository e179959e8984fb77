-- Months earlier, as dates (RULES 12.4). In order: each month begins where the one before it ends (`month_start-add-one`); the
-- instant of a date, which from year -10000 on is by the calendar's day number (`seconds_at-civil_day`); the date of a time in
-- range exists, and gives the time back (`date_of_a_time_exists`, `time_of_its_date`); the landing of a pair of months
-- (`months_earlier-seconds_at`).
-- Assumes nothing.
use mathlib.Core.Path.{◌≡◌, sym, ap, ◌∙◌}
use mathlib.Core.Bool.{true, cond}
use Prim.Native.Nat.{ℕ, zero, suc, ◌+◌, ◌-◌, ◌*◌, ◌/◌, ◌%◌, ◌≤◌, ◌<◌}
use native.Mathlib.Omega.{arith}
use borrow.Author.Tests.{leb-false, ltb-true, ltb-false}
use lib.Dec.{leb, ltb}
use lib.IntN.{ℤ, pos, negsuc, neg_ℤ, ◌+ℤ◌, ◌-ℤ◌, ◌*ℤ◌, -ℤ-+ℤ_cancel, +ℤ-neg_ℤ_cancel, +ℤ_idr}
use lib.Signed.{◌≤ℤ◌}
use Rattle.ints.specs.Range.{In}
use Rattle.ints.proofs.Parts.{ints, add_parts, up_neg, dn-neg, up-mul, dn-mul, parts-eq, pos-nat_abs-add}
use Rattle.ints.proofs.Machine.{In_of_is_in}
use Rattle.text.proofs.Lists.{by_test, both}
use Rattle.calendar.specs.Calendar.{first_day, month_length, month_of}
use Rattle.calendar.specs.Civil.{Civil, IsCivil, civil_day}
use Rattle.calendar.proofs.Lengths.{first_day-zero, first_day-add-one}
use Rattle.calendar.proofs.Cycle.{first_day-add-4800}
use Rattle.calendar.proofs.Dates.{IsDate-month_of}
use Rattle.calendar.proofs.Civil.{civil_date-sub, IsCivil-civil_at}
use Rattle.time.specs.Range.{least_seconds, most_seconds, least_offset, most_offset, seconds_in_range, offset_in_range, time_in_range}
use Rattle.time.specs.declared.Time.{Time}
use Rattle.relative.specs.Steps.{local_seconds, month_start, months_earlier}
use Rattle.relative.specs.Months.{date_at, clock_at, month_at, day_of_month, month_days, earlier_date, seconds_at}

-- ---- months, below 0 too
-- a month begins where the one before it ends
next_first : (j n : ℕ) → pos (first_day (j + 1)) -ℤ pos n ≡ pos (first_day j) -ℤ pos n +ℤ pos (month_length j)
next_first j n =
    let a : ℤ = pos (first_day j) -ℤ pos n in
    parts-eq _ _ (omega (arith, first_day-add-one j, add_parts (pos (first_day (j + 1))) (neg_ℤ (pos n)), add_parts (pos (first_day j)) (neg_ℤ (pos n)), add_parts a (pos (month_length j)), up_neg (pos n), dn-neg (pos n)))

-- a cycle ends where the next one begins
cycle_end : (n : ℕ) → pos (first_day 0) -ℤ pos n ≡ pos (first_day (4799 + 1)) -ℤ pos (n + 146097)
cycle_end n =
    parts-eq _ _ (omega (arith, first_day-zero, first_day-add-4800 0, add_parts (pos (first_day 0)) (neg_ℤ (pos n)), add_parts (pos (first_day (4799 + 1))) (neg_ℤ (pos (n + 146097))), up_neg (pos n), dn-neg (pos n), up_neg (pos (n + 146097)), dn-neg (pos (n + 146097))))

pub month_start-add-one : (m : ℤ) → month_start (m +ℤ pos 1) ≡ month_start m +ℤ pos (month_days m)
unfolding month_start month_days
month_start-add-one (pos m) = ap pos (first_day-add-one m)
month_start-add-one (negsuc zero) = sym (+ℤ_idr (pos (first_day 0))) ∙ cycle_end 0 ∙ next_first 4799 146097
month_start-add-one (negsuc (suc m)) =
    let e : negsuc (suc m) +ℤ pos 1 ≡ negsuc m = parts-eq _ _ (omega (arith, add_parts (negsuc (suc m)) (pos 1))) in
    rw e
    (by_test (ltb (m % 4800) 4799)
    (λ h.
    let l = ltb-true (m % 4800) 4799 h in
    let a : 4799 - m % 4800 ≡ 4799 - suc m % 4800 + 1 = omega arith in
    let b : m / 4800 ≡ suc m / 4800 = omega arith in
    rw (a, b) (next_first (4799 - suc m % 4800) ((suc m / 4800 + 1) * 146097)))
    (λ h.
    let l = ltb-false (m % 4800) 4799 h in
    let a : 4799 - m % 4800 ≡ 0 = omega arith in
    let b : 4799 - suc m % 4800 ≡ 4799 = omega arith in
    let n : (suc m / 4800 + 1) * 146097 ≡ (m / 4800 + 1) * 146097 + 146097 = omega arith in
    rw (a, b, n) (cycle_end ((m / 4800 + 1) * 146097) ∙ next_first 4799 ((m / 4800 + 1) * 146097 + 146097))))

-- the month of a day of month m
pub month_at-day_of_month : (m : ℤ) (k : ℕ) → month_at (day_of_month m k) ≡ m
month_at-day_of_month (pos m) k = rw (-ℤ-+ℤ_cancel (pos (m / 12)) (pos 10000)) (ap pos (omega arith))
month_at-day_of_month (negsuc m) k =
    let y : ℤ = negsuc (m / 12) in
    rw (-ℤ-+ℤ_cancel y (pos 10000)) (parts-eq _ _ (omega (arith, up-mul y 12, dn-mul y 12, add_parts (y *ℤ pos 12) (pos (12 - m % 12 - 1)))))

-- ---- the instant of a date
-- k days after the first of month m, at a clock and an offset
abbrev instant : ℤ → ℕ → ℕ → ℤ → ℤ
instant m k clock o = (month_start m +ℤ pos k -ℤ pos 4371953) *ℤ pos 86400 +ℤ pos clock -ℤ o

seconds_at-day_of_month : (m : ℤ) (k clock : ℕ) (o : ℤ) → seconds_at (day_of_month m k) clock o ≡ instant m (k - 1) clock o
unfolding seconds_at
seconds_at-day_of_month (pos m) k clock o = rw (month_at-day_of_month (pos m) k)
seconds_at-day_of_month (negsuc m) k clock o = rw (month_at-day_of_month (negsuc m) k)

-- from year -10000 on it is by the calendar's day number of the date
pub seconds_at-civil_day : (c : Civil) (clock : ℕ) (o : ℤ) → negsuc 9999 ≤ℤ c.year → seconds_at c clock o ≡ civil_day c *ℤ pos 86400 +ℤ pos clock -ℤ o
unfolding seconds_at civil_day month_start
seconds_at-civil_day c clock o h =
    ap (λ (y : ℤ). (month_start (y *ℤ pos 12 +ℤ pos (c.month - 1)) +ℤ pos (c.day - 1) -ℤ pos 4371953) *ℤ pos 86400 +ℤ pos clock -ℤ o) (sym (pos-nat_abs-add 10000 c.year h))

-- second c of day z, counted from day 0, as seconds since 1970
since1970_of_day : (z : ℤ) (c : ℕ) → (z -ℤ pos 4371953) *ℤ pos 86400 +ℤ pos c ≡ z *ℤ pos 86400 +ℤ pos c -ℤ pos 377736739200
since1970_of_day z c =
    let y : ℤ = z -ℤ pos 4371953 in
    let s : ℤ = z *ℤ pos 86400 in
    parts-eq _ _ (omega (arith, add_parts z (negsuc 4371952), up-mul y 86400, dn-mul y 86400, add_parts (y *ℤ pos 86400) (pos c), up-mul z 86400, dn-mul z 86400, add_parts s (pos c), add_parts (s +ℤ pos c) (negsuc 377736739199)))

-- ---- a time in range
module _ (x : Time) (e : time_in_range x ≡ true) where
  seconds_within : In least_seconds most_seconds x.seconds
  unfolding time_in_range seconds_in_range
  seconds_within = In_of_is_in least_seconds most_seconds x.seconds (both (seconds_in_range x.seconds) (offset_in_range x.offset) e).0

  offset_in : In least_offset most_offset x.offset
  unfolding time_in_range offset_in_range
  offset_in = In_of_is_in least_offset most_offset x.offset (both (seconds_in_range x.seconds) (offset_in_range x.offset) e).1

  -- its local time, counted from day 0, is not below 0, so `local_seconds` loses nothing
  pub pos-local_seconds : pos (local_seconds x) ≡ x.seconds +ℤ x.offset +ℤ pos 377736739200
  pos-local_seconds =
      pos-nat_abs-add 377736739200 (x.seconds +ℤ x.offset) (omega (ints, seconds_within.low, offset_in.low, add_parts x.seconds x.offset))

  -- its local date exists, in the years -9999 to 9999
  pub date_of_a_time_exists : IsCivil (date_at x)
  date_of_a_time_exists =
      let t : ℕ = local_seconds x in
      let s : ℤ = x.seconds +ℤ x.offset in
      let low : 366 * 86400 ≤ t = omega (ints, pos-local_seconds, seconds_within.low, offset_in.low, add_parts x.seconds x.offset, add_parts s (pos 377736739200)) in
      let high : t < 7304850 * 86400 = omega (ints, pos-local_seconds, seconds_within.high, offset_in.high, add_parts x.seconds x.offset, add_parts s (pos 377736739200)) in
      rw (civil_date-sub (t / 86400)) (IsCivil-civil_at (t / 86400) (omega arith) (omega arith))

  -- and date, clock and offset give the time back
  pub time_of_its_date : seconds_at (date_at x) (clock_at x) x.offset ≡ x.seconds
  unfolding month_start
  time_of_its_date =
      let t : ℕ = local_seconds x in
      let d : ℕ = t / 86400 in
      let k : ℕ = d - first_day (month_of d) in
      let f : first_day (month_of d) + (k + 1 - 1) ≡ d = omega (arith, (IsDate-month_of d).sum) in
      let g : d * 86400 + t % 86400 ≡ t = omega arith in
      rw (civil_date-sub d, seconds_at-day_of_month (pos (month_of d)) (k + 1) (t % 86400) x.offset, f, since1970_of_day (pos d) (t % 86400), g)
      (ap (λ (z : ℤ). z -ℤ pos 377736739200 -ℤ x.offset) pos-local_seconds ∙ ap (λ (z : ℤ). z -ℤ x.offset) (+ℤ-neg_ℤ_cancel (x.seconds +ℤ x.offset) (pos 377736739200)) ∙ +ℤ-neg_ℤ_cancel x.seconds x.offset)

-- ---- the landing of a pair of months
-- k days after the first of month m: a day of that month, or of the next
abbrev run_on : ℤ → ℕ → Civil
run_on m k = cond (leb (k + 1) (month_days m)) (day_of_month m (k + 1)) (day_of_month (m +ℤ pos 1) (k + 1 - month_days m))

seconds_at-run_on : (m : ℤ) (k clock : ℕ) (o : ℤ) → seconds_at (run_on m k) clock o ≡ instant m k clock o
seconds_at-run_on m k clock o =
    by_test (leb (k + 1) (month_days m))
    (λ e. let f : k + 1 - 1 ≡ k = omega arith in rw (e, seconds_at-day_of_month m (k + 1) clock o, f))
    (λ e.
    let l = leb-false (k + 1) (month_days m) e in
    let n : ℕ = month_days m in
    let a : ℤ = month_start m in
    let f : a +ℤ pos n +ℤ pos (k + 1 - n - 1) ≡ a +ℤ pos k = parts-eq _ _ (omega (arith, add_parts (a +ℤ pos n) (pos (k + 1 - n - 1)), add_parts a (pos n), add_parts a (pos k))) in
    rw (e, seconds_at-day_of_month (m +ℤ pos 1) (k + 1 - n) clock o, month_start-add-one m, f))

-- the landing of n months is the instant of the date n months earlier, at the same clock and offset
pub months_earlier-seconds_at : (x : Time) (n : ℕ) → months_earlier x n ≡ seconds_at (earlier_date (date_at x) n) (clock_at x) x.offset
unfolding months_earlier earlier_date
months_earlier-seconds_at x n =
    let d : ℕ = local_seconds x / 86400 in
    let m : ℕ = month_of d in
    let k : ℕ = d - first_day m in
    rw (civil_date-sub d, month_at-day_of_month (pos m) (k + 1), seconds_at-run_on (pos m -ℤ pos n) k (clock_at x) x.offset)
    (ap (λ (z : ℤ). z -ℤ x.offset) (sym (since1970_of_day (month_start (pos m -ℤ pos n) +ℤ pos k) (clock_at x))))
