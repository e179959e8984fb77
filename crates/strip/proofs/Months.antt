-- Which month a year and a month name: none outside their ranges (`month_in_of_year`, `month_in_of_month`), and inside them one of the years
-- -9999 to 9999 (`month_in_of_In`, `HasStrip_of_In`).
-- Assumes nothing.
use Rattle.std.specs.Prelude.{None, Some}
use mathlib.Core.Path.{◌≡◌}
use Prim.Native.Nat.{◌≤◌}
use native.Mathlib.Omega.{arith}
use mathlib.Core.Bool.{false, and-false}
use lib.IntN.{ℤ, pos, negsuc, nat_abs, ◌+ℤ◌}
use lib.Signed.{◌≤ℤ◌, pos-nat_abs, yes_non_neg}
use Rattle.ints.specs.Range.{In, is_in}
use Rattle.ints.proofs.Parts.{ints, add_parts}
use Rattle.ints.proofs.Machine.{is_in_of_In}
use Rattle.calendar.specs.Civil.{year_count, is_year}
use Rattle.calendar.specs.Dates.{month_number}
use Rattle.strip.specs.Strip.{month_in}
use Rattle.strip.specs.Held.{HasStrip}

pub month_in_of_year : (y m : ℤ) → is_year y ≡ false → month_in y m ≡ None
unfolding month_in
month_in_of_year y m e = rw e

pub month_in_of_month : (y m : ℤ) → is_in (pos 1) (pos 12) m ≡ false → month_in y m ≡ None
unfolding month_in
month_in_of_month y m e = rw (e, and-false)

pub month_in_of_In : (y m : ℤ) → In (negsuc 9998) (pos 9999) y → In (pos 1) (pos 12) m → month_in y m ≡ Some (month_number (year_count y) (nat_abs m))
unfolding month_in
month_in_of_In y m p q = rw (is_in_of_In p, is_in_of_In q)

pub HasStrip_of_In : (y m : ℤ) → In (negsuc 9998) (pos 9999) y → In (pos 1) (pos 12) m → HasStrip (Some (month_number (year_count y) (nat_abs m)))
HasStrip_of_In y m p q =
    let up : pos 0 ≤ℤ (y +ℤ pos 10000) = omega (ints, p.low, add_parts y (pos 10000)) in
    let a : pos (year_count y) ≡ y +ℤ pos 10000 = pos-nat_abs (y +ℤ pos 10000) (yes_non_neg up) in
    let above : pos 0 ≤ℤ m = omega (ints, q.low) in
    let b : pos (nat_abs m) ≡ m = pos-nat_abs m (yes_non_neg above) in
    let most : year_count y ≤ 19999 = omega (ints, a, p.high, add_parts y (pos 10000)) in
    let least : 1 ≤ year_count y = omega (ints, a, p.low, add_parts y (pos 10000)) in
    let first : 1 ≤ nat_abs m = omega (ints, b, q.low) in
    let last : nat_abs m ≤ 12 = omega (ints, b, q.high) in
    (omega arith, omega arith)
