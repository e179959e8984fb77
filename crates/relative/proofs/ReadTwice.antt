-- RULES 12.11: one count of months or years, read at two current times. The second answer is before the first by less than the days
-- that run on (`back_within_surplus`): for months by 259,199 seconds at most (`back_at_most_259199`), for years by 86,399
-- (`years_back_at_most_86399`). It is not before the first if no day runs on (`not-back_without_surplus`), so not from the days 1 to
-- 28 (`not-back_from_day_28`), and not within a local month (`not-back_in_one-month`). Last, how such a text is typed
-- (`OnePair_of_TypedCount`).
-- Assumes nothing.
use Rattle.std.specs.Prelude.{None, Ok, Some}
use mathlib.Core.Path.{◌≡◌, refl, sym, ap, ◌∙◌}
use mathlib.Core.Bool.{true, false, false≢true}
use mathlib.Core.List.{List, [], ◌∷◌}
use Prim.Native.Nat.{ℕ, zero, suc, ◌+◌, ◌-◌, ◌*◌, ◌/◌, ◌%◌, ◌≤◌, ◌<◌}
use native.Mathlib.Nat.{le_antisymm}
use native.Mathlib.Omega.{arith}
use native.Mathlib.Decide.{dec_lt}
use lib.IntN.{ℤ, pos, negsuc, neg_ℤ, ◌+ℤ◌, ◌-ℤ◌, ◌*ℤ◌, +ℤ_idr}
use lib.Signed.{◌≤ℤ◌}
use Rattle.ints.proofs.Parts.{ints, add_parts, up_neg, dn-neg, up-mul, dn-mul, parts-eq, parts-le, le_parts, eq-parts, pos-sub, pos-sub-lt}
use Rattle.text.proofs.Lists.{by_test}
use Rattle.calendar.specs.Calendar.{first_day, month_length, month_of}
use Rattle.calendar.proofs.Lengths.{month_length-ge, month_length-le, month_length-le_of_year}
use Rattle.calendar.proofs.Dates.{IsDate-month_of, month_of-le}
use Rattle.calendar.proofs.Civil.{civil_date-sub}
use Rattle.time.specs.Range.{time_in_range}
use Rattle.time.specs.declared.Time.{Time}
use Rattle.relative.specs.Words.{is}
use Rattle.relative.specs.Pairs.{pairs_from}
use Rattle.relative.specs.Steps.{local_seconds, month_start, months_earlier, landing}
use Rattle.relative.specs.Relative.{relative_of}
use Rattle.relative.specs.Months.{date_at, month_at, month_days, OnePair}
use Rattle.relative.specs.ReadTwice.{may_be_ago, TypedCount, ReadTwice, SameMonth, surplus}
use Rattle.relative.specs.declared.pair.Unit.TheVariants.{Months}
use Rattle.relative.proofs.Dates.{month_start-add-one, month_at-day_of_month, pos-local_seconds}
use Rattle.relative.proofs.Texts.{in_range_of_answered}
use Rattle.relative.proofs.Earlier.{landed_answered, one-pair_lands_exactly}
use Rattle.relative.proofs.LetterCase.{ago_is_no_count}

-- ---- months, one after the other
-- a later month begins at the end of an earlier one, or after it
month_start-later : (m : ℤ) (j : ℕ) → (month_start m +ℤ pos (month_days m)) ≤ℤ month_start (m +ℤ pos (suc j))
month_start-later m zero = rw (month_start-add-one m) (omega ints)
month_start-later m (suc j) =
    let e : m +ℤ pos (suc (suc j)) ≡ m +ℤ pos (suc j) +ℤ pos 1 = parts-eq _ _ (omega (arith, add_parts m (pos (suc (suc j))), add_parts m (pos (suc j)), add_parts (m +ℤ pos (suc j)) (pos 1))) in
    rw (e, month_start-add-one (m +ℤ pos (suc j))) (omega (ints, month_start-later m j, add_parts (month_start (m +ℤ pos (suc j))) (pos (month_days (m +ℤ pos (suc j))))))

-- ---- landings
-- k days after day a, at a clock and an offset
abbrev at : ℤ → ℕ → ℕ → ℤ → ℤ
at a k c o = (a +ℤ pos k) *ℤ pos 86400 +ℤ pos c -ℤ pos 377736739200 -ℤ o

-- a landing from day a is at most e seconds after one from day b, which is w days later or more
at_le-add : (a b o : ℤ) (w k c j d e : ℕ) → (a +ℤ pos w) ≤ℤ b → k * 86400 + c ≤ (w + j) * 86400 + d + e → at a k c o ≤ℤ (at b j d o +ℤ pos e)
at_le-add a b o w k c j d e h l =
    let p : ℤ = a +ℤ pos k in
    let q : ℤ = b +ℤ pos j in
    let r : ℤ = p *ℤ pos 86400 in
    let s : ℤ = q *ℤ pos 86400 in
    let t : ℤ = r +ℤ pos c in
    let u : ℤ = s +ℤ pos d in
    let v : ℤ = t -ℤ pos 377736739200 in
    let z : ℤ = u -ℤ pos 377736739200 in
    parts-le _ _ (omega (arith, le_parts h, add_parts a (pos w), add_parts a (pos k), add_parts b (pos j), up-mul p 86400, dn-mul p 86400, up-mul q 86400, dn-mul q 86400, add_parts r (pos c), add_parts s (pos d), add_parts t (negsuc 377736739199), add_parts u (negsuc 377736739199), add_parts v (neg_ℤ o), add_parts z (neg_ℤ o), add_parts (at b j d o) (pos e)))

-- where n months lead from the local time t, in seconds from day 0, at an offset
abbrev land : ℕ → ℕ → ℤ → ℤ
land t n o = let m : ℕ = month_of (t / 86400) in at (month_start (pos m -ℤ pos n)) (t / 86400 - first_day m) (t % 86400) o

-- the days that run on
abbrev over : ℕ → ℕ → ℕ
over t n = let m : ℕ = month_of (t / 86400) in t / 86400 - first_day m + 1 - month_days (pos m -ℤ pos n)

-- ---- two local times, the first not after the second
module _ (t u n : ℕ) (o : ℤ) (l : t ≤ u) where
  -- in one month: the landings are as far apart as the times
  land-le_of_month : month_of (t / 86400) ≡ month_of (u / 86400) → (e : ℕ) → land t n o ≤ℤ (land u n o +ℤ pos e)
  land-le_of_month h e =
      let a : ℤ = month_start (pos (month_of (t / 86400)) -ℤ pos n) in
      let f = ap first_day h in
      rw (← h) (at_le-add a a o 0 _ _ _ _ e (rw (+ℤ_idr a) (omega ints)) (omega (arith, (IsDate-month_of (t / 86400)).sum, (IsDate-month_of (u / 86400)).sum)))

  -- the first in an earlier month: only the days that run on can lead beyond the end of the month reached
  land-le_of_lt : month_of (t / 86400) < month_of (u / 86400) → land t n o ≤ℤ (land u n o +ℤ pos (over t n * 86400 - 1))
  land-le_of_lt h =
      let m : ℕ = month_of (t / 86400) in
      let m' : ℕ = month_of (u / 86400) in
      let z : ℤ = pos m -ℤ pos n in
      let e : pos m' -ℤ pos n ≡ z +ℤ pos (suc (m' - suc m)) = parts-eq _ _ (omega (arith, up_neg (pos n), dn-neg (pos n), add_parts (pos m') (neg_ℤ (pos n)), add_parts (pos m) (neg_ℤ (pos n)), add_parts z (pos (suc (m' - suc m))))) in
      rw e (at_le-add (month_start z) (month_start (z +ℤ pos (suc (m' - suc m)))) o (month_days z) _ _ _ _ _ (month_start-later z (m' - suc m)) (omega arith))

  land-le-add : land t n o ≤ℤ (land u n o +ℤ pos (over t n * 86400 - 1))
  land-le-add =
      elim (dec_lt (month_of (t / 86400)) (month_of (u / 86400))) [
        | yes h ↦ land-le_of_lt h
        | no h ↦ land-le_of_month (le_antisymm (month_of-le (t / 86400) (u / 86400) (omega arith)) (omega arith)) _
      ]

-- ---- times
-- the landing of n months, and the days that run on, by the local time
months_earlier-land : (x : Time) (n : ℕ) → months_earlier x n ≡ land (local_seconds x) n x.offset
unfolding months_earlier
months_earlier-land x n = refl

surplus_over : (x : Time) (n : ℕ) → surplus x n ≡ over (local_seconds x) n
surplus_over x n =
    let d : ℕ = local_seconds x / 86400 in
    let m : ℕ = month_of d in
    rw (civil_date-sub d, month_at-day_of_month (pos m) (d - first_day m + 1))

local_seconds-le : (x y : Time) → time_in_range x ≡ true → time_in_range y ≡ true → x.offset ≡ y.offset → x.seconds ≤ℤ y.seconds → local_seconds x ≤ local_seconds y
local_seconds-le x y p q o l =
    omega (ints, l, eq-parts o, pos-local_seconds x p, pos-local_seconds y q, add_parts x.seconds x.offset, add_parts y.seconds y.offset, add_parts (x.seconds +ℤ x.offset) (pos 377736739200), add_parts (y.seconds +ℤ y.offset) (pos 377736739200))

-- ---- how many days can run on
month_days-ge : (m : ℤ) → 28 ≤ month_days m
unfolding month_days
month_days-ge (pos m) = month_length-ge m
month_days-ge (negsuc m) = month_length-ge (4799 - m % 4800)

-- a number of years earlier
month_days-years : (m n : ℕ) → month_length m ≤ month_days (pos m -ℤ pos (n * 12)) + 1
unfolding month_days
month_days-years m n =
    elim (dec_lt m (n * 12)) [
      | yes h ↦ let j : ℕ = n * 12 - suc m in rw (pos-sub-lt m (n * 12) h) (month_length-le_of_year m (4799 - j % 4800) (omega arith))
      | no h ↦ rw (pos-sub m (n * 12) (omega arith)) (month_length-le_of_year m (m - n * 12) (omega arith))
    ]

-- the day of t's month, from 0
day-lt : (t : ℕ) → t / 86400 - first_day (month_of (t / 86400)) < month_length (month_of (t / 86400))
day-lt t = (IsDate-month_of (t / 86400)).within

surplus-le-3 : (x : Time) (n : ℕ) → surplus x n ≤ 3
surplus-le-3 x n =
    let t : ℕ = local_seconds x in
    let m : ℕ = month_of (t / 86400) in
    rw (surplus_over x n) (omega (arith, day-lt t, month_length-le m, month_days-ge (pos m -ℤ pos n)))

surplus-le-1_of_years : (x : Time) (n : ℕ) → surplus x (n * 12) ≤ 1
surplus-le-1_of_years x n =
    let t : ℕ = local_seconds x in
    let m : ℕ = month_of (t / 86400) in
    rw (surplus_over x (n * 12)) (omega (arith, day-lt t, month_days-years m n))

-- two times in the same local month
month_of_SameMonth : (x y : Time) → SameMonth x y → month_of (local_seconds x / 86400) ≡ month_of (local_seconds y / 86400)
month_of_SameMonth x y h =
    let d : ℕ = local_seconds x / 86400 in
    let e : ℕ = local_seconds y / 86400 in
    let p : pos (month_of d / 12) -ℤ pos 10000 ≡ pos (month_of e / 12) -ℤ pos 10000 = rw (civil_date-sub d, civil_date-sub e) at h.year in
    let q : month_of d % 12 + 1 ≡ month_of e % 12 + 1 = rw (civil_date-sub d, civil_date-sub e) at h.month in
    omega (ints, p, add_parts (pos (month_of d / 12)) (negsuc 9999), add_parts (pos (month_of e / 12)) (negsuc 9999))

-- ---- one count of months or years, read at two current times
module _ (bound : ℕ) (l : 1 ≤ bound) (s : List ℕ) (n k : ℕ) (c : OnePair s n (Months k)) where
  answer_land : (x a : Time) → relative_of bound s (Some x) ≡ Ok a → a.seconds ≡ land (local_seconds x) (n * k) x.offset
  unfolding landing
  answer_land x a e =
      let p = in_range_of_answered bound s x a e in
      let q = landed_answered _ _ a (sym (one-pair_lands_exactly bound l s n x p (Months k) refl c) ∙ e) in
      sym (ap (λ (t : Time). t.seconds) q) ∙ months_earlier-land x (n * k)

  module _ (x y a b : Time) (r : ReadTwice bound s x y a b) where
    later : local_seconds x ≤ local_seconds y
    later = local_seconds-le x y (in_range_of_answered bound s x a r.first) (in_range_of_answered bound s y b r.second) r.same_offset r.in_order

    first : a.seconds ≡ land (local_seconds x) (n * k) x.offset
    first = answer_land x a r.first

    second : b.seconds ≡ land (local_seconds y) (n * k) x.offset
    second = answer_land y b r.second ∙ ap (land (local_seconds y) (n * k)) (sym r.same_offset)

    -- the second answer is before the first by less than the days that run on
    pub back_within_surplus : a.seconds ≤ℤ (b.seconds +ℤ pos (surplus x (n * k) * 86400 - 1))
    back_within_surplus =
        rw (first, second, surplus_over x (n * k)) (land-le-add (local_seconds x) (local_seconds y) (n * k) x.offset later)

    -- so never by more than 259,199 seconds
    pub back_at_most_259199 : a.seconds ≤ℤ (b.seconds +ℤ pos 259199)
    back_at_most_259199 = omega (ints, back_within_surplus, surplus-le-3 x (n * k), add_parts b.seconds (pos (surplus x (n * k) * 86400 - 1)), add_parts b.seconds (pos 259199))

    -- never if no day runs on, and so never from the days 1 to 28
    pub not-back_without_surplus : surplus x (n * k) ≡ 0 → a.seconds ≤ℤ b.seconds
    not-back_without_surplus h = omega (ints, back_within_surplus, add_parts b.seconds (pos (surplus x (n * k) * 86400 - 1)))

    pub not-back_from_day_28 : (date_at x).day ≤ 28 → a.seconds ≤ℤ b.seconds
    not-back_from_day_28 h = not-back_without_surplus (omega (arith, month_days-ge (month_at (date_at x) -ℤ pos (n * k))))

    -- and never within a local month
    pub not-back_in_one-month : SameMonth x y → a.seconds ≤ℤ b.seconds
    not-back_in_one-month h =
        rw (first, second) (omega (ints, land-le_of_month (local_seconds x) (local_seconds y) (n * k) x.offset later (month_of_SameMonth x y h) 0, add_parts (land (local_seconds y) (n * k) x.offset) (pos 0)))

-- years
module _ (bound : ℕ) (l : 1 ≤ bound) (s : List ℕ) (n : ℕ) (c : OnePair s n (Months 12)) (x y a b : Time) (r : ReadTwice bound s x y a b) where
  pub years_back_at_most_86399 : a.seconds ≤ℤ (b.seconds +ℤ pos 86399)
  years_back_at_most_86399 = omega (ints, back_within_surplus bound l s n 12 c x y a b r, surplus-le-1_of_years x n, add_parts b.seconds (pos (surplus x (n * 12) * 86400 - 1)), add_parts b.seconds (pos 86399))

-- ---- how such a text is typed
pub OnePair_of_TypedCount : {s : List ℕ} {n k : ℕ} → TypedCount s n k → OnePair s n (Months k)
unfolding pairs_from
OnePair_of_TypedCount {s} {n} {k} t =
    let e : is t.word "ago" ≡ false = by_test (is t.word "ago") (λ e. let z : Some n ≡ None = sym t.count ∙ ago_is_no_count t.word e in let i : ◌≡◌ {A = ℕ} 0 1 = cc in absurd (omega arith)) (λ e. e) in
    record { plain = t.plain; pair = rw (t.words, e, t.count, t.months, no_more t.end t.ago) }
  where
    no_more : (ws : List (List ℕ)) → may_be_ago ws ≡ true → pairs_from None ws ≡ []
    no_more [] h = refl
    no_more (w ∷ []) h = refl
    no_more (w ∷ v ∷ ws) h = absurd (false≢true h)
