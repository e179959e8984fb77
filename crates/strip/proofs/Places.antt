-- What is shown at a place, and the week of a row, by the numbers that the code has. The first `before` places are empty, the month's days follow,
-- and all places behind them are empty (`number_from-before`, `number_from_at`, `number_from-behind`); so it is with the rows that begin in time
-- (`week_from_in`, `week_from-behind`). These are the definitions' own places and rows (`shown_at_is`, `week_at_is`), and all of them together are
-- the strip's (`weeks_of_is`, `days_of_is`).
-- Assumes nothing.
use mathlib.Core.Path.{◌≡◌, sym, ap, ◌∙◌}
use mathlib.Core.Bool.{and-false}
use Prim.Native.Nat.{ℕ, ◌+◌, ◌*◌, ◌-◌, ◌%◌, ◌≤◌, ◌<◌}
use native.Mathlib.Omega.{arith}
use native.Mathlib.Decide.{dec_lt}
use borrow.Author.Tests.{le-leb, lt-leb, lt-ltb, le-ltb, eq-eqb, ne_eqb}
use Rattle.calendar.specs.Calendar.{first_day, month_length, month_of, IsDate}
use Rattle.calendar.proofs.Lengths.{first_day-suc}
use Rattle.calendar.proofs.Cycle.{first_day-lower}
use Rattle.calendar.proofs.Dates.{IsDate-month_of, month_of_of_IsDate}
use Rattle.strip.specs.Weeks.{monday, week}
use Rattle.strip.specs.Strip.{along, place_day, shown_at, week_at, weeks_of, days_of}
use Rattle.strip.specs.Held.{number_from, week_from}
use Rattle.strip.proofs.Weeks.{monday-add}
use Rattle.strip.proofs.Filling.{along-eq}

-- ---- places

pub number_from-before : (b n i : ℕ) → i < b → number_from b n i ≡ 0
unfolding number_from
number_from-before b n i h = rw (lt-leb b i h)

pub number_from_at : (b n i : ℕ) → b ≤ i → i < b + n → number_from b n i ≡ i - b + 1
unfolding number_from
number_from_at b n i h l = rw (le-leb b i h, lt-ltb i (b + n) l)

pub number_from-behind : (b n i : ℕ) → b + n ≤ i → number_from b n i ≡ 0
unfolding number_from
number_from-behind b n i h = rw (le-ltb i (b + n) h, and-false)

-- ---- rows

pub week_from_in : (s e r : ℕ) → s + r * 7 < e → week_from s e r ≡ week (s + r * 7 + 3)
unfolding week_from
week_from_in s e r h = rw (lt-ltb (s + r * 7) e h)

pub week_from-behind : (s e r : ℕ) → e ≤ s + r * 7 → week_from s e r ≡ 0
unfolding week_from
week_from-behind s e r h = rw (le-ltb (s + r * 7) e h)

-- ---- a month's own places and rows, by the days before its first day in the week

-- the first week of day 0 is long past
pub first_day-ge : (m : ℕ) → 12 ≤ m → 362 ≤ first_day m
first_day-ge m h = omega (arith, first_day-lower m)

-- the days of the week before the month's first
abbrev pub before : ℕ → ℕ
before m = (first_day m + 5) % 7

pub monday-first_day : (m : ℕ) → 12 ≤ m → monday (first_day m) + before m ≡ first_day m
monday-first_day m h = monday-add (first_day m) (omega (arith, first_day-ge m h))

pub shown_at_is : (m i : ℕ) → 12 ≤ m → shown_at m i ≡ number_from (before m) (month_length m) i
unfolding shown_at place_day
shown_at_is m i h =
    let d = monday (first_day m) + i in
    let s = monday-first_day m h in
    let month = IsDate-month_of d in
    elim (dec_lt i (before m)) [
      | yes a ↦ rw (ne_eqb (month_of d) m (λ e. omega (arith, s, month.sum, ap first_day e)), number_from-before (before m) (month_length m) i a)
      | no a ↦ elim (dec_lt i (before m + month_length m)) [
        | yes b ↦ let date : IsDate d m (d - first_day m) = record { sum = omega (arith, s); within = omega (arith, s) } in
            let shown : d - first_day m + 1 ≡ i - before m + 1 = omega (arith, s) in
            rw (eq-eqb (month_of d) m (month_of_of_IsDate date), number_from_at (before m) (month_length m) i (omega arith) b) shown
        | no b ↦ rw (ne_eqb (month_of d) m (λ e. omega (arith, s, month.sum, month.within, ap first_day e, ap month_length e)), number_from-behind (before m) (month_length m) i (omega arith))
      ]
    ]

pub week_at_is : (m r : ℕ) → week_at m r ≡ week_from (monday (first_day m)) (first_day m + month_length m) r
unfolding week_at week_from place_day
week_at_is m r = let e : monday (first_day m) + (r * 7 + 3) ≡ monday (first_day m) + r * 7 + 3 = omega arith in rw (first_day-suc m, e)

-- ---- all of them

pub weeks_of_is : (m f e : ℕ) → 12 ≤ m → f ≡ first_day m → e ≡ first_day m + month_length m → along (week_from (f - (f + 5) % 7) e) 6 0 ≡ weeks_of m
weeks_of_is m f e h p q =
    let s : f - (f + 5) % 7 ≡ monday (first_day m) = omega (arith, monday-first_day m h) in
    (λ j. along (week_from (s j) (q j)) 6 0) ∙ sym (along-eq (week_at m) _ 6 0 0 (λ r l. week_at_is m (0 + r)))

pub days_of_is : (m f e : ℕ) → 12 ≤ m → f ≡ first_day m → e ≡ first_day m + month_length m → along (number_from ((f + 5) % 7) (e - f)) 42 0 ≡ days_of m
days_of_is m f e h p q =
    let n : e - f ≡ month_length m = omega arith in
    (λ j. along (number_from ((p j + 5) % 7) (n j)) 42 0) ∙ sym (along-eq (shown_at m) _ 42 0 0 (λ i l. shown_at_is m (0 + i) h))
