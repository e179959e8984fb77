-- A local time some months earlier, by the date at hand: the definition's answer (`back_of_of_IsDate`), none where the month has
-- no such one before it (`back_of_of_lt`), and never later than the time it starts from (`back-le`).
-- Assumes nothing.
use Rattle.std.specs.Prelude.{None, Some}
use mathlib.Core.Path.{◌≡◌}
use Prim.Native.Nat.{ℕ, ◌+◌, ◌*◌, ◌-◌, ◌/◌, ◌%◌, ◌≤◌, ◌<◌}
use native.Mathlib.Omega.{arith}
use borrow.Author.Tests.{le-leb, lt-leb}
use Rattle.calendar.specs.Calendar.{first_day, IsDate}
use Rattle.calendar.specs.Back.{months_back, back_of}
use Rattle.calendar.proofs.Cycle.{first_day-le}
use Rattle.calendar.proofs.Dates.{month_of_of_IsDate}

months_back_of_IsDate : (t n : ℕ) {m k : ℕ} → IsDate (t / 86400) m k → months_back t n ≡ (first_day (m - n) + k) * 86400 + t % 86400
unfolding months_back
months_back_of_IsDate t n {m} {k} p =
    let e : t / 86400 - first_day m ≡ k = omega arith in
    rw (month_of_of_IsDate p, e)

pub back_of_of_IsDate : (t n : ℕ) {m k : ℕ} → IsDate (t / 86400) m k → n ≤ m → back_of t n ≡ Some ((first_day (m - n) + k) * 86400 + t % 86400)
unfolding back_of
back_of_of_IsDate t n {m} {k} p h = rw (month_of_of_IsDate p, le-leb n m h, months_back_of_IsDate t n p)

pub back_of_of_lt : (t n : ℕ) {m k : ℕ} → IsDate (t / 86400) m k → m < n → back_of t n ≡ None
unfolding back_of
back_of_of_lt t n {m} p h = rw (month_of_of_IsDate p, lt-leb n m h)

-- the first day of an earlier month is no later, and day and clock are kept
pub back-le : (t n : ℕ) {m k : ℕ} → IsDate (t / 86400) m k → (first_day (m - n) + k) * 86400 + t % 86400 ≤ t
back-le t n {m} {k} p = omega (arith, first_day-le (m - n) m (omega arith))
