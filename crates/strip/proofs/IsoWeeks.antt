-- RULES 14.2, 14.3: weekdays and weeks are those of ISO 8601. Weekdays: 1 January 1970 is a Thursday, each day has the weekday after that of the
-- day before, and nothing else is like that (`only_weekday`). Weeks: the days from Monday to Sunday have one number (`same_week`); the
-- year's first Thursday, and 4 January, are in week 1; the next week has the next number, or is week 1 of the next year
-- (`weeks_count_on`); so a number counts Thursdays (`week_counts_thursdays`), and goes from 1 to 53.
-- Assumes nothing.
use mathlib.Core.Path.{◌≡◌, refl, sym, ap, ◌∙◌}
use mathlib.Core.Logic.{◌⊎◌, inl, inr}
use Prim.Native.Nat.{ℕ, zero, suc, ◌+◌, ◌*◌, ◌-◌, ◌/◌, ◌%◌, ◌≤◌, ◌<◌}
use native.Mathlib.Nat.{zero-add, suc-add, not-suc-le-zero}
use native.Mathlib.Omega.{arith}
use native.Mathlib.Decide.{dec_lt, dec_le}
use borrow.Author.Tests.{eq-eqb, ne_eqb}
use Rattle.calendar.specs.Calendar.{year_start, year_of}
use Rattle.calendar.proofs.Lengths.{year_start-suc}
use Rattle.calendar.proofs.Dates.{year_of-between, year_of-unique}
use Rattle.strip.specs.Weeks.{weekday, monday, thursday, first_thursday, week_year, week}
use Rattle.strip.specs.Theorems.{following}
use Rattle.strip.proofs.Weeks.{weekday_is, weekday-ge, weekday-le, monday-add, thursday_of_thursday, first_thursday_is, week_of_thursday, days_into_year, year_length-ge}

-- ---- weekdays

pub epoch_is_a_thursday : weekday 4371953 ≡ 4
unfolding weekday
epoch_is_a_thursday = refl

pub weekday_of_next_day : (d : ℕ) → weekday (suc d) ≡ following (weekday d)
unfolding weekday
weekday_of_next_day d =
    elim (dec_lt ((d + 5) % 7) 6) [
      | yes h ↦ rw (ne_eqb ((d + 5) % 7 + 1) 7 (λ s. omega arith)) (omega arith)
      | no h ↦ rw (eq-eqb ((d + 5) % 7 + 1) 7 (omega arith)) (omega arith)
    ]

following_injective : (a b : ℕ) → 1 ≤ a → a ≤ 7 → 1 ≤ b → b ≤ 7 → following a ≡ following b → a ≡ b
following_injective a b h i j k e =
    elim (dec_lt a 7) [
      | yes l ↦ elim (dec_lt b 7) [
        | yes m ↦ omega (arith, rw (ne_eqb a 7 (λ s. omega arith), ne_eqb b 7 (λ s. omega arith)) at e)
        | no m ↦ omega (arith, rw (ne_eqb a 7 (λ s. omega arith), eq-eqb b 7 (omega arith)) at e)
      ]
      | no l ↦ elim (dec_lt b 7) [
        | yes m ↦ omega (arith, rw (eq-eqb a 7 (omega arith), ne_eqb b 7 (λ s. omega arith)) at e)
        | no m ↦ omega arith
      ]
    ]

-- a weekday for each day that follows in this way, and is right on one day, is right on all
module _ (w : ℕ → ℕ) (low : (d : ℕ) → 1 ≤ w d) (high : (d : ℕ) → w d ≤ 7) (next : (d : ℕ) → w (suc d) ≡ following (w d)) where
  onward : (k d : ℕ) → w d ≡ weekday d → w (k + d) ≡ weekday (k + d)
  onward zero d e = rw zero-add e
  onward (suc k) d e = rw suc-add (next (k + d) ∙ ap following (onward k d e) ∙ sym (weekday_of_next_day (k + d)))

  backward : (k d : ℕ) → w (k + d) ≡ weekday (k + d) → w d ≡ weekday d
  backward zero d e = rw zero-add at e
  backward (suc k) d e =
      backward k d
      (following_injective (w (k + d)) (weekday (k + d)) (low (k + d)) (high (k + d)) (weekday-ge (k + d)) (weekday-le (k + d))
      (sym (next (k + d)) ∙ rw suc-add at e ∙ weekday_of_next_day (k + d)))

  pub only_weekday : w 4371953 ≡ 4 → (d : ℕ) → w d ≡ weekday d
  only_weekday e d =
      let at-epoch : w 4371953 ≡ weekday 4371953 = e ∙ sym epoch_is_a_thursday in
      elim (dec_le d 4371953) [
        | yes h ↦ let s : 4371953 - d + d ≡ 4371953 = omega arith in backward (4371953 - d) d (rw s at-epoch)
        | no h ↦ let s : d - 4371953 + 4371953 ≡ d = omega arith in rw s at (onward (d - 4371953) 4371953 at-epoch)
      ]

-- ---- weeks

-- a year but the first begins after the first week
year_start-ge : (y : ℕ) → 1 ≤ y → 365 ≤ year_start y
year_start-ge zero h = absurd (not-suc-le-zero h)
year_start-ge (suc y) h = omega (arith, year_start-suc y, year_length-ge y)

-- the Thursday of a week is one
pub weekday_thursday : (d : ℕ) → 6 ≤ d → weekday (thursday d) ≡ 4
unfolding thursday
weekday_thursday d h = weekday_is (monday d + 3) ∙ omega (arith, monday-add d h)

thursday_is : (d : ℕ) → 6 ≤ d → thursday d + (d + 5) % 7 ≡ d + 3
unfolding thursday
thursday_is d h = omega (arith, monday-add d h)

thursday-add-7 : (d : ℕ) → 6 ≤ d → thursday (d + 7) ≡ thursday d + 7
unfolding thursday
thursday-add-7 d h = omega (arith, monday-add d h, monday-add (d + 7) (omega arith))

-- a week by its Thursday alone
week_thursday : (d : ℕ) → 6 ≤ d → week d ≡ week (thursday d)
unfolding week week_year
week_thursday d h = rw (thursday_of_thursday (thursday d) (weekday_thursday d h))

week_of_its_thursday : (d : ℕ) → 6 ≤ d → week d ≡ (thursday d - year_start (week_year d)) / 7 + 1
unfolding week_year
week_of_its_thursday d h = week_thursday d h ∙ week_of_thursday (thursday d) (weekday_thursday d h)

-- the days from Monday to Sunday
pub same_week : (d e : ℕ) → monday d ≡ monday e → (week d ≡ week e) × (week_year d ≡ week_year e)
unfolding week week_year thursday
same_week d e h = (rw h, rw h)

pub first_thursday_in_week_1 : (y : ℕ) → (week (first_thursday y) ≡ 1) × (week_year (first_thursday y) ≡ y)
unfolding week week_year
first_thursday_in_week_1 y = rw (t, in_y) (omega arith, refl)
  where
    t : thursday (first_thursday y) ≡ first_thursday y
    t = thursday_of_thursday (first_thursday y) (weekday_is (first_thursday y) ∙ omega (arith, first_thursday_is y))

    in_y : year_of (first_thursday y) ≡ y
    in_y = year_of-unique (first_thursday y) y (omega (arith, first_thursday_is y)) (omega (arith, first_thursday_is y, year_start-suc y, year_length-ge y))

pub fourth_of_january_in_week_1 : (y : ℕ) → 1 ≤ y → (week (year_start y + 3) ≡ 1) × (week_year (year_start y + 3) ≡ y)
unfolding week_year
fourth_of_january_in_week_1 y h =
    let d = year_start y + 3 in
    let late : 6 ≤ d = omega (arith, year_start-ge y h) in
    let near : (year_start y ≤ thursday d) × (thursday d < year_start y + 7) = (omega (arith, thursday_is d late), omega (arith, thursday_is d late)) in
    let in_y : year_of (thursday d) ≡ y = year_of-unique (thursday d) y near.0 (omega (arith, near.1, year_start-suc y, year_length-ge y)) in
    (week_of_its_thursday d late ∙ rw in_y (omega (arith, near.1)), in_y)

-- after a week comes the next of its year, or week 1 of the next year
pub weeks_count_on : (d : ℕ) → 6 ≤ d → ((week (d + 7) ≡ suc (week d)) × (week_year (d + 7) ≡ week_year d)) ⊎ ((week (d + 7) ≡ 1) × (week_year (d + 7) ≡ suc (week_year d)))
unfolding week_year
weeks_count_on d h =
    let t = thursday d in
    let y = year_of t in
    let b = year_of-between t in
    let later = thursday-add-7 d h in
    let this = week_of_its_thursday d h in
    let next = week_of_its_thursday (d + 7) (omega arith) in
    elim (dec_lt (t + 7) (year_start (suc y))) [
      | yes l ↦ let in_y : year_of (thursday (d + 7)) ≡ y = rw later (year_of-unique (t + 7) y (omega (arith, b.0)) l) in
          inl (next ∙ rw (in_y, later, this) (omega (arith, b.0)), in_y)
      | no l ↦ let in-next : year_of (thursday (d + 7)) ≡ suc y = rw later (year_of-unique (t + 7) (suc y) (omega arith) (omega (arith, b.1, year_start-suc (suc y), year_length-ge (suc y)))) in
          inr (next ∙ rw (in-next, later) (omega (arith, b.1)), in-next)
    ]

-- week n of a year is that of its n-th Thursday
pub week_counts_thursdays : (d : ℕ) → 6 ≤ d → thursday d ≡ first_thursday (week_year d) + (week d - 1) * 7
unfolding week_year
week_counts_thursdays d h =
    omega (arith, week_of_its_thursday d h, weekday_is (thursday d), weekday_thursday d h, first_thursday_is (year_of (thursday d)), (year_of-between (thursday d)).0)

pub weeks_1_to_53 : (d : ℕ) → (1 ≤ week d) × (week d ≤ 53)
unfolding week week_year
weeks_1_to_53 d = (omega arith, omega (arith, days_into_year (thursday d), first_thursday_is (year_of (thursday d))))
