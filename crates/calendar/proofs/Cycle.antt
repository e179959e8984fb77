-- The calendar goes by cycles of 400 years, which are 4,800 months and 146,097 days (`year_start-add-400`, `first_day-add-4800`,
-- `first_day_by_cycle`). So what a test shows of one cycle holds of every month: a first day is within three days of what the mean
-- length of a month gives (`first_day-lower`, `first_day-upper`), and first days strictly rise (`first_day-lt`, `first_day-le`). The
-- same pass tests the days that the code counts by rule (`from_march-first_day`).
-- Assumes nothing.
use mathlib.Core.Path.{◌≡◌, ◌∙◌, refl, ap}
use mathlib.Core.Logic.{⊎_elim}
use mathlib.Core.Bool.{Bool, ◌&&◌}
use Prim.Native.Nat.{ℕ, zero, suc, ◌+◌, ◌*◌, ◌-◌, ◌/◌, ◌%◌, ◌≤◌, ◌<◌}
use native.Mathlib.Nat.{zero-mul, zero-add, suc-add, eq-or-lt_of_le, not-suc-le-zero}
use native.Mathlib.Decide.{dec_le}
use native.Mathlib.Omega.{arith}
use lib.Dec.{T, leb, eqb, leb→le, eqb→eq}
use mir.Facts.{and_yes}
use Rattle.calendar.specs.Calendar.{leap, lengths, month_length, year_length, total, year_start, first_day}
use Rattle.calendar.proofs.Lengths.{first_day-suc}
use Rattle.calendar.proofs.Walk.{cycle, cycle_at}

-- ---- the same calendar 400 years on

leap-add-400 : (y : ℕ) → leap (y + 400) ≡ leap y
unfolding leap
leap-add-400 y =
    let a : (y + 400) % 4 ≡ y % 4 = omega arith in
    let b : (y + 400) % 100 ≡ y % 100 = omega arith in
    let c : (y + 400) % 400 ≡ y % 400 = omega arith in
    rw (a, b, c)

month_length-add-4800 : (m : ℕ) → month_length (m + 4800) ≡ month_length m
unfolding month_length
month_length-add-4800 m =
    let a : (m + 4800) / 12 ≡ m / 12 + 400 = omega arith in
    let b : (m + 4800) % 12 ≡ m % 12 = omega arith in
    rw (a, b, leap-add-400)

-- the days of one cycle
year_start-400 : year_start (0 + 400) ≡ year_start 0 + 146097
unfolding year_start year_length leap
year_start-400 = refl

first_day-4800 : first_day (0 + 4800) ≡ first_day 0 + 146097
unfolding first_day year_start year_length total lengths leap
first_day-4800 = refl

pub year_start-add-400 : (y : ℕ) → year_start (y + 400) ≡ year_start y + 146097
unfolding year_start year_length
year_start-add-400 zero = year_start-400
year_start-add-400 (suc y) = ap year_start (suc-add y 400) ∙ rw leap-add-400 (omega (arith, year_start-add-400 y))

pub year_start-mul-400 : (q : ℕ) → year_start (q * 400) ≡ q * 146097
unfolding year_start
year_start-mul-400 zero = refl
year_start-mul-400 (suc q) =
    let e : suc q * 400 ≡ q * 400 + 400 = omega arith in
    rw (e, year_start-add-400) (omega (arith, year_start-mul-400 q))

pub first_day-add-4800 : (m : ℕ) → first_day (m + 4800) ≡ first_day m + 146097
first_day-add-4800 zero = first_day-4800
first_day-add-4800 (suc m) =
    ap first_day (suc-add m 4800) ∙ omega (arith, first_day-suc (m + 4800), first_day-suc m, first_day-add-4800 m, month_length-add-4800 m)

first_day-mul-4800-add : (q r : ℕ) → first_day (q * 4800 + r) ≡ q * 146097 + first_day r
first_day-mul-4800-add zero r = simp (zero-mul, zero-add)
first_day-mul-4800-add (suc q) r =
    let e : suc q * 4800 + r ≡ q * 4800 + r + 4800 = omega arith in
    rw (e, first_day-add-4800, first_day-mul-4800-add q r) (omega arith)

-- month m by its cycle, and its place there
pub first_day_by_cycle : (m : ℕ) → first_day m ≡ m / 4800 * 146097 + first_day (m % 4800)
first_day_by_cycle m =
    let e : m ≡ m / 4800 * 4800 + m % 4800 = omega arith in
    ap first_day e ∙ first_day-mul-4800-add (m / 4800) (m % 4800)

-- ---- one pass along a cycle

-- the days from 1 March of a year that divides by 400 to the first of a month: whole years y, and m months from March
abbrev since_march : ℕ → ℕ → ℕ
since_march y m = y * 365 + y / 4 - y / 100 + y / 400 + (153 * m + 2) / 5

-- of month k, from the March that comes 4,798 months before month 0
abbrev from_march : ℕ → ℕ
from_march k = since_march ((k + 4798) / 12) ((k + 4798) % 12)

near : ℕ → ℕ → Bool
near m x = leb (48699 * m) (1600 * x + 4800) && leb (1600 * x) (48699 * m + 4800)

counted : ℕ → ℕ → Bool
counted m x = eqb (from_march m) (x + 146037)

tested : ℕ → ℕ → Bool
tested m x = near m x && counted m x

cycle_tested : T (cycle tested)
unfolding tested near counted month_length lengths leap
cycle_tested = tt

tested_at : (m : ℕ) → m < 4800 → T (near m (first_day m)) × T (counted m (first_day m))
unfolding tested
tested_at m h = and_yes (near m (first_day m)) (counted m (first_day m)) (cycle_at tested cycle_tested m h)

pub from_march-first_day : (k : ℕ) → k < 4800 → from_march k ≡ first_day k + 146037
unfolding counted
from_march-first_day k h = eqb→eq (from_march k) (first_day k + 146037) (tested_at k h).1

-- ---- first days by the mean length of a month, 48699 / 1600 days

near_at : (m : ℕ) → m < 4800 → T (leb (48699 * m) (1600 * first_day m + 4800)) × T (leb (1600 * first_day m) (48699 * m + 4800))
unfolding near
near_at m h =
    and_yes (leb (48699 * m) (1600 * first_day m + 4800)) (leb (1600 * first_day m) (48699 * m + 4800)) (tested_at m h).0

pub first_day-lower : (m : ℕ) → 48699 * m ≤ 1600 * first_day m + 4800
first_day-lower m =
    let r = m % 4800 in
    rw first_day_by_cycle (omega (arith, leb→le (48699 * r) (1600 * first_day r + 4800) (near_at r (omega arith)).0))

pub first_day-upper : (m : ℕ) → 1600 * first_day m ≤ 48699 * m + 4800
first_day-upper m =
    let r = m % 4800 in
    rw first_day_by_cycle (omega (arith, leb→le (1600 * first_day r) (48699 * r + 4800) (near_at r (omega arith)).1))

-- ---- order

first_day-lt : (m n : ℕ) → m < n → first_day m < first_day n
first_day-lt m n h = omega (arith, first_day-lower n, first_day-upper m)

pub first_day-le : (m n : ℕ) → m ≤ n → first_day m ≤ first_day n
first_day-le m n h = ⊎_elim (λ e. omega (arith, ap first_day e)) (λ l. omega (arith, first_day-lt m n l)) (eq-or-lt_of_le h)

-- a day that month m has begun by, and that lies before the end of month n
pub le_of_first_day : (m n d : ℕ) → first_day m ≤ d → d < first_day (suc n) → m ≤ n
le_of_first_day m n d a b = elim (dec_le m n) [ yes h ↦ h | no h ↦ omega (arith, first_day-le (suc n) m (omega arith)) ]

-- the first month begins by every day
pub pos_of_lt-first_day : (d m : ℕ) → d < first_day m → 0 < m
unfolding first_day year_start total
pos_of_lt-first_day d zero h = absurd (not-suc-le-zero h)
pos_of_lt-first_day d (suc m) h = omega arith

-- ---- the end of year 9999

first_day-240000 : first_day 240000 ≡ 7304850
unfolding first_day year_start year_length total lengths leap
first_day-240000 = refl

pub first_day_in_range : (m : ℕ) → m ≤ 240000 → first_day m ≤ 7304850
first_day_in_range m h = omega (arith, first_day-le m 240000 h, first_day-240000)

pub lt_of_first_day_in_range : (m d : ℕ) → first_day m ≤ d → d < 7304850 → m < 240000
lt_of_first_day_in_range m d a b = omega (arith, le_of_first_day m 239999 d a (omega (arith, first_day-240000)))
