-- What RULES 14 promises of a month's strip, over the definitions of specs/; the contracts carry it to the code. In order: the day at a place, and
-- its weekday; each day of the month is shown exactly once, in order, and nothing else; the rows and their weeks; the strip of the next
-- month. Months are those from month 12 on, January of year -9999.
-- Assumes nothing.
use mathlib.Core.Path.{◌≡◌, refl, sym, ap, ◌∙◌}
use mathlib.Core.Logic.{◌↔◌, ◌⊎◌, inl, inr, ⊎_elim}
use mathlib.Core.List.{List, ◌++◌}
use Prim.Native.Nat.{ℕ, suc, ◌+◌, ◌*◌, ◌-◌, ◌%◌, ◌≤◌, ◌<◌}
use native.Mathlib.Omega.{arith}
use native.Mathlib.Decide.{dec_lt}
use lib.ListN.{replicate}
use Rattle.calendar.specs.Calendar.{first_day, month_length}
use Rattle.calendar.proofs.Lengths.{first_day-suc, month_length-ge, month_length-le}
use Rattle.calendar.proofs.Cycle.{first_day-le, first_day_in_range}
use Rattle.calendar.proofs.Civil.{first_day-12}
use Rattle.strip.specs.Weeks.{weekday, monday, week}
use Rattle.strip.specs.Strip.{along, place_day, shown_at, week_at, days_of}
use Rattle.strip.specs.Theorems.{place_of, full_rows}
use Rattle.strip.proofs.Weeks.{weekday_is, monday-add}
use Rattle.strip.proofs.IsoWeeks.{same_week, weeks_count_on, weeks_1_to_53}
use Rattle.strip.proofs.Filling.{along-append, along-eq, along_zeros}
use Rattle.strip.proofs.Places.{before, first_day-ge, monday-first_day, shown_at_is, week_at_is, number_from-before, number_from_at, number_from-behind, week_from_in, week_from-behind}

-- ---- places

-- the columns are Monday to Sunday
pub weekday_of_place : (m i : ℕ) → 12 ≤ m → weekday (place_day m i) ≡ i % 7 + 1
unfolding place_day
weekday_of_place m i h = weekday_is (monday (first_day m) + i) ∙ omega (arith, monday-first_day m h)

-- a place shows k exactly if its day is day k of the month
pub shown_iff : (m i k : ℕ) → 12 ≤ m → 1 ≤ k → (shown_at m i ≡ k) ↔ ((k ≤ month_length m) × (place_day m i ≡ first_day m + (k - 1)))
unfolding place_day
shown_iff m i k h p = (there, back)
  where
    b : ℕ
    b = before m

    n : ℕ
    n = month_length m

    s : monday (first_day m) + before m ≡ first_day m
    s = monday-first_day m h

    there : shown_at m i ≡ k → (k ≤ n) × (monday (first_day m) + i ≡ first_day m + (k - 1))
    there e =
        elim (dec_lt i b) [
          | yes l ↦ absurd (omega (arith, e, shown_at_is m i h, number_from-before b n i l))
          | no l ↦ elim (dec_lt i (b + n)) [
            | yes r ↦ let v = number_from_at b n i (omega arith) r in (omega (arith, e, shown_at_is m i h, v), omega (arith, s, e, shown_at_is m i h, v))
            | no r ↦ absurd (omega (arith, e, shown_at_is m i h, number_from-behind b n i (omega arith)))
          ]
        ]

    back : (k ≤ n) × (monday (first_day m) + i ≡ first_day m + (k - 1)) → shown_at m i ≡ k
    back e = shown_at_is m i h ∙ number_from_at b n i (omega (arith, s)) (omega (arith, s)) ∙ omega (arith, s)

-- each day of the month is shown, within the six rows
pub day_shown : (m k : ℕ) → 12 ≤ m → 1 ≤ k → k ≤ month_length m → (place_of m k < 42) × (shown_at m (place_of m k) ≡ k)
unfolding place_day
day_shown m k h p q =
    let w = weekday_is (first_day m) in
    let i = place_of m k in
    let e : monday (first_day m) + i ≡ first_day m + (k - 1) = omega (arith, w, monday-first_day m h) in
    (omega (arith, w, month_length-le m), (shown_iff m i k h p).1 (q, e))

-- once, under its weekday
pub day_shown_once : (m i k : ℕ) → 12 ≤ m → 1 ≤ k → shown_at m i ≡ k → (i ≡ place_of m k) × (i % 7 + 1 ≡ weekday (first_day m + (k - 1)))
unfolding place_day
day_shown_once m i k h p e =
    let day = ((shown_iff m i k h p).0 e).1 in
    (omega (arith, day, weekday_is (first_day m), monday-first_day m h), sym (weekday_of_place m i h) ∙ ap weekday day)

-- and nothing else is shown
pub only_days_shown : (m i : ℕ) → 12 ≤ m → shown_at m i ≤ month_length m
only_days_shown m i h =
    elim (dec_lt 0 (shown_at m i)) [
      | yes p ↦ ((shown_iff m i (shown_at m i) h p).0 refl).0
      | no p ↦ omega arith
    ]

-- so the six rows are the days of the month in order, with nothing between them, and zeros before and behind
pub days_in_order : (m : ℕ) → 12 ≤ m → days_of m ≡ replicate (weekday (first_day m) - 1) 0 ++ along suc (month_length m) 0 ++ replicate (43 - weekday (first_day m) - month_length m) 0
days_in_order m h =
    let b = weekday (first_day m) - 1 in
    let n = month_length m in
    let c = 43 - weekday (first_day m) - n in
    let w : b ≡ before m = omega (arith, weekday_is (first_day m)) in
    let all : 42 ≡ b + n + c = omega (arith, weekday_is (first_day m), month_length-le m) in
    let zeros = along_zeros (shown_at m) b 0 (λ k l. shown_at_is m (0 + k) h ∙ number_from-before (before m) n (0 + k) (omega arith)) in
    let days = along-eq (shown_at m) suc n (0 + b) 0 (λ k l. shown_at_is m (0 + b + k) h ∙ number_from_at (before m) n (0 + b + k) (omega arith) (omega arith) ∙ omega arith) in
    let rest = along_zeros (shown_at m) c (0 + (b + n)) (λ k l. shown_at_is m (0 + (b + n) + k) h ∙ number_from-behind (before m) n (0 + (b + n) + k) (omega arith)) in
    ap (λ (k : ℕ). along (shown_at m) k 0) all
    ∙ along-append (shown_at m) (b + n) c 0
    ∙ ap (λ (l : List ℕ). l ++ along (shown_at m) c (0 + (b + n))) (along-append (shown_at m) b n 0)
    ∙ (λ i. zeros i ++ days i ++ rest i)

-- ---- rows

-- a row that begins before the next month has the week of each of its days, and so of its Thursday, whatever year that is in
pub week_of_row : (m r c : ℕ) → 12 ≤ m → c < 7 → place_day m (r * 7) < first_day (suc m) → week_at m r ≡ week (place_day m (r * 7 + c))
unfolding place_day
week_of_row m r c h l p =
    let s = monday-first_day m h in
    let start = monday (first_day m) in
    let late : 6 ≤ start + (r * 7 + c) = omega (arith, s, first_day-ge m h) in
    let late₃ : 6 ≤ start + r * 7 + 3 = omega (arith, s, first_day-ge m h) in
    let same : monday (start + r * 7 + 3) ≡ monday (start + (r * 7 + c)) = omega (arith, s, monday-add (start + r * 7 + 3) late₃, monday-add (start + (r * 7 + c)) late) in
    week_at_is m r ∙ week_from_in start (first_day m + month_length m) r (omega (arith, first_day-suc m)) ∙ (same_week (start + r * 7 + 3) (start + (r * 7 + c)) same).0

-- week 0 exactly if no day of the month is in the row
pub unused_row_iff : (m r : ℕ) → 12 ≤ m → (week_at m r ≡ 0) ↔ ((c : ℕ) → c < 7 → shown_at m (r * 7 + c) ≡ 0)
unused_row_iff m r h = (there, back)
  where
    start : ℕ
    start = monday (first_day m)

    n : ℕ
    n = month_length m

    s : start + before m ≡ first_day m
    s = monday-first_day m h

    there : week_at m r ≡ 0 → (c : ℕ) → c < 7 → shown_at m (r * 7 + c) ≡ 0
    there e c l =
        elim (dec_lt (start + r * 7) (first_day m + n)) [
          | yes p ↦ absurd (omega (arith, e, week_at_is m r, week_from_in start (first_day m + n) r p, (weeks_1_to_53 (start + r * 7 + 3)).0))
          | no p ↦ shown_at_is m (r * 7 + c) h ∙ number_from-behind (before m) n (r * 7 + c) (omega (arith, s))
        ]

    -- the 1st in the first row, the Monday in any other
    back : ((c : ℕ) → c < 7 → shown_at m (r * 7 + c) ≡ 0) → week_at m r ≡ 0
    back e =
        elim (dec_lt (start + r * 7) (first_day m + n)) [
          | yes p ↦ elim (dec_lt (r * 7) (before m)) [
            | yes q ↦ let i = r * 7 + (before m - r * 7) in
                absurd (omega (arith, e (before m - r * 7) (omega arith), shown_at_is m i h, number_from_at (before m) n i (omega arith) (omega (arith, month_length-ge m))))
            | no q ↦ absurd (omega (arith, e 0 (omega arith), shown_at_is m (r * 7 + 0) h, number_from_at (before m) n (r * 7 + 0) (omega arith) (omega (arith, s))))
          ]
          | no p ↦ week_at_is m r ∙ week_from-behind start (first_day m + n) r (omega arith)
        ]

-- the first four rows are never empty
pub four_rows_used : (m r : ℕ) → 12 ≤ m → r < 4 → 1 ≤ week_at m r
four_rows_used m r h l =
    let start = monday (first_day m) in
    let p : start + r * 7 < first_day m + month_length m = omega (arith, monday-first_day m h, month_length-ge m) in
    rw (week_at_is m r ∙ week_from_in start (first_day m + month_length m) r p) (weeks_1_to_53 (start + r * 7 + 3)).0

-- no row needs a Thursday outside the years -9999 to 9999
pub thursdays_in_calendar : (m r : ℕ) → 12 ≤ m → m < 240000 → place_day m (r * 7) < first_day (suc m) → (366 ≤ place_day m (r * 7 + 3)) × (place_day m (r * 7 + 3) < 7304850)
unfolding place_day
thursdays_in_calendar m r h l p =
    let s = monday-first_day m h in
    (omega (arith, s, first_day-le 12 m h, first_day-12), omega (arith, s, p, first_day_in_range (suc m) l))

-- ---- the next month

-- the strip of the next month begins with the row behind the full ones
pub next_strip_goes_on : (m i : ℕ) → 12 ≤ m → place_day (suc m) i ≡ place_day m (full_rows m * 7 + i)
unfolding place_day
next_strip_goes_on m i h =
    omega (arith, monday-first_day m h, monday-first_day (suc m) (omega arith), first_day-suc m, weekday_is (first_day m))

-- in that row each day is shown by one of the two strips: by the first up to its last day, by the next from its 1st on
pub next_row_completes : (m c : ℕ) → 12 ≤ m → c < 7
    → ((c < weekday (first_day (suc m)) - 1) × (1 ≤ shown_at m (full_rows m * 7 + c)) × (shown_at (suc m) c ≡ 0))
    ⊎ ((weekday (first_day (suc m)) - 1 ≤ c) × (shown_at m (full_rows m * 7 + c) ≡ 0) × (1 ≤ shown_at (suc m) c))
next_row_completes m c h l =
    let b = before m in
    let n = month_length m in
    let i = full_rows m * 7 + c in
    let w = weekday_is (first_day m) in
    let v = weekday_is (first_day (suc m)) in
    let g = month_length-ge m in
    elim (dec_lt c (weekday (first_day (suc m)) - 1)) [
      | yes p ↦ let shown = shown_at_is m i h ∙ number_from_at b n i (omega arith) (omega (arith, first_day-suc m)) in
          let empty = number_from-before (before (suc m)) (month_length (suc m)) c (omega arith) in
          inl (p, omega (arith, shown), shown_at_is (suc m) c (omega arith) ∙ empty)
      | no p ↦ let empty = number_from-behind b n i (omega (arith, first_day-suc m)) in
          let shown = shown_at_is (suc m) c (omega arith) ∙ number_from_at (before (suc m)) (month_length (suc m)) c (omega arith) (omega (arith, month_length-ge (suc m))) in
          inr (omega arith, shown_at_is m i h ∙ empty, omega (arith, shown))
    ]

-- a row begins before the next month as long as its place is before the end of the month
row_begins : (m r : ℕ) → 12 ≤ m → r * 7 < before m + month_length m → place_day m (r * 7) < first_day (suc m)
unfolding place_day
row_begins m r h l = omega (arith, monday-first_day m h, first_day-suc m)

-- it has one week, unless the month ends with a Sunday
pub next_row_same_week : (m : ℕ) → 12 ≤ m → 1 < weekday (first_day (suc m)) → week_at (suc m) 0 ≡ week_at m (full_rows m)
next_row_same_week m h p =
    let first = row_begins (suc m) 0 (omega arith) (omega (arith, month_length-ge (suc m))) in
    let last = row_begins m (full_rows m) h (omega (arith, weekday_is (first_day m), weekday_is (first_day (suc m)), first_day-suc m)) in
    week_of_row (suc m) 0 3 (omega arith) (omega arith) first ∙ ap week (next_strip_goes_on m 3 h) ∙ sym (week_of_row m (full_rows m) 3 h (omega arith) last)

-- and then the next week, or week 1
pub next_row_next_week : (m : ℕ) → 12 ≤ m → weekday (first_day (suc m)) ≡ 1 → (week_at (suc m) 0 ≡ suc (week_at m (full_rows m - 1))) ⊎ (week_at (suc m) 0 ≡ 1)
unfolding place_day
next_row_next_week m h p =
    let r = full_rows m - 1 in
    let w = weekday_is (first_day m) in
    let g = month_length-ge m in
    let first = row_begins (suc m) 0 (omega arith) (omega (arith, month_length-ge (suc m))) in
    let last = row_begins m r h (omega arith) in
    let monday-before : place_day (suc m) 0 ≡ place_day m (r * 7 + 0) + 7 = next_strip_goes_on m 0 h ∙ place_day-add-7 m (full_rows m * 7 + 0) (r * 7 + 0) (omega arith) in
    let now-is : week_at (suc m) 0 ≡ week (place_day m (r * 7 + 0) + 7) = week_of_row (suc m) 0 0 (omega arith) (omega arith) first ∙ ap week monday-before in
    let was : week_at m r ≡ week (place_day m (r * 7 + 0)) = week_of_row m r 0 h (omega arith) last in
    ⊎_elim
    (λ e. inl (now-is ∙ e.0 ∙ ap suc (sym was)))
    (λ e. inr (now-is ∙ e.0))
    (weeks_count_on (place_day m (r * 7 + 0)) (place_day-ge m (r * 7 + 0) h))
  where
    place_day-add-7 : (m i j : ℕ) → i ≡ j + 7 → place_day m i ≡ place_day m j + 7
    place_day-add-7 m i j e = omega arith

    place_day-ge : (m i : ℕ) → 12 ≤ m → 6 ≤ place_day m i
    place_day-ge m i h = omega (arith, monday-first_day m h, first_day-ge m h)
