-- Which times the ISO writer refuses. In order: the year of a line, in seconds; the answer from its three tests (`iso_answer`); it is
-- 7 and 6 exactly on these times (`iso_refused_by_7`, `iso_refused_by_6`); year 0 begins at one second (`shown_year_in_seconds`); only
-- near it is a time refused, or written, where its line at the full offset would not be (`refusals_move_only_near_year_0`).
-- Assumes nothing.
use Rattle.std.specs.Prelude.{Err}
use mathlib.Core.Path.{◌≡◌, refl, sym, ap, ◌∙◌}
use mathlib.Core.Logic.{◌↔◌, ◌⊎◌, inl, inr, ⊎_elim}
use mathlib.Core.Bool.{Bool, true, false, ◌&&◌, and-true, false≢true}
use mathlib.Core.List.{List}
use Prim.Native.Nat.{ℕ, ◌/◌, ◌≤◌, ◌<◌}
use native.Mathlib.Omega.{arith}
use borrow.Author.Tests.{le-leb, lt-leb, leb-true, leb-false}
use lib.Dec.{leb, ltb}
use lib.IntN.{ℤ, pos, neg_ℤ, nat_abs, ◌+ℤ◌, ◌-ℤ◌}
use lib.ListN.{length}
use lib.Signed.{le_z}
use Rattle.ints.specs.Range.{is_in}
use Rattle.ints.proofs.Parts.{ints, add_parts, eq-parts, nat_abs-parts, one_up}
use Rattle.ints.proofs.Machine.{lit, le_yes, le_no, le_z-sub-sub, le_z-true, le_z-false, In_of_is_in}
use Rattle.calendar.proofs.Dates.{IsDate_of_date_of, IsDate-month-lt}
use Rattle.calendar.proofs.Cycle.{first_day_by_cycle, first_day-le, le_of_first_day}
use Rattle.calendar.proofs.Lengths.{first_day-suc, first_day-zero}
use Rattle.calendar.specs.Calendar.{first_day}
use Rattle.calendar.specs.Dates.{date_of}
use Rattle.text.proofs.Lists.{by_test}
use Rattle.text.proofs.Numbers.{leb-pred}
use Rattle.time.specs.Answers.{time_at, written_number}
use Rattle.time.specs.Clock.{clock_of, local_of}
use Rattle.time.specs.Header.{cut_to_minutes}
use Rattle.time.specs.Iso.{line_clock, clock_year, line_instant, line_written, shown, iso_written}
use Rattle.time.specs.Range.{least_seconds, most_seconds, seconds_in_range, instant_of}
use Rattle.time.specs.Theorems.{line_year, shown_year, year_zero, answer_by}
use Rattle.time.specs.declared.Time.{Time}
use Rattle.time.specs.declared.Refusal.TheVariants.{Offset, Range}
use Rattle.time.proofs.Isos.{time_in_range_of_narrow}
use Rattle.time.proofs.Minutes.{up_cut, dn_cut, nat_abs-cut}
use Rattle.time.proofs.Ranges.{local_of-instant_of}

-- ---- the year of a line
-- year 0 begins with day 3652425, counted from year -10000
first_day_of_year_0 : first_day 120000 ≡ 3652425
first_day_of_year_0 = omega (arith, first_day_by_cycle 120000, first_day-zero)

-- a day falls in year 0 or later exactly from that day on
year_of_day : (d : ℕ) → leb 120000 (date_of d).month ≡ leb 3652425 d
year_of_day d =
    let m : ℕ = (date_of d).month in
    let p = IsDate_of_date_of {x = date_of d} refl in
    by_test (leb 3652425 d)
    (λ e.
    let l = le_of_first_day 120000 m d (omega (arith, first_day_of_year_0, leb-true 3652425 d e)) (omega (arith, first_day-suc m, p.sum, p.within)) in
    le-leb 120000 m l ∙ sym e)
    (λ e. by_test (leb 120000 m)
    (λ f. absurd (omega (arith, first_day-le 120000 m (leb-true 120000 m f), first_day_of_year_0, p.sum, leb-false 3652425 d e)))
    (λ f. f ∙ sym e))

-- the year of a line is in 0 to 9999 exactly from the first second of year 0 on: none is above
line_year_in_seconds : (t : Time) → nat_abs t.offset < 86400 → seconds_in_range t.seconds ≡ true → is_in (pos 0) (pos 9999) (line_year t) ≡ le_z year_zero (t.seconds +ℤ t.offset)
unfolding seconds_in_range clock_of
line_year_in_seconds t h e =
    let local : ℕ = local_of (instant_of t) in
    let d : ℕ = local / 86400 in
    let m : ℕ = (date_of d).month in
    let in-range = In_of_is_in least_seconds most_seconds t.seconds e in
    let sum = add_parts t.seconds t.offset in
    let at = eq-parts (local_of-instant_of t (time_in_range_of_narrow t h ∙ e)) in
    let up = add_parts (t.seconds +ℤ t.offset) (pos 377736739200) in
    let l : local < 631139040000 = omega (ints, sum, at, up, in-range.high, nat_abs-parts t.offset) in
    let k : m < 240000 = IsDate-month-lt (IsDate_of_date_of {x = date_of d} refl) (omega arith) in
    rw (le_z-sub-sub 10000 (m / 12) 10000, le_z-sub-sub (m / 12) 19999 10000, le-leb (m / 12) 19999 (omega arith))
    (and-true (leb 10000 (m / 12))
    ∙ by_test (leb 120000 m)
    (λ f.
    let y = leb-true 3652425 d (sym (year_of_day d) ∙ f) in
    le-leb 10000 (m / 12) (omega (arith, leb-true 120000 m f)) ∙ sym (le_z-true {a = year_zero} {b = t.seconds +ℤ t.offset} (omega (ints, sum, at, up, y))))
    (λ f.
    let y = leb-false 3652425 d (sym (year_of_day d) ∙ f) in
    lt-leb 10000 (m / 12) (omega (arith, leb-false 120000 m f)) ∙ sym (le_z-false {a = year_zero} {b = t.seconds +ℤ t.offset} (omega (ints, sum, at, up, y)))))

-- ---- the answer, from its three tests
-- of the line of a time as it is
line_answer : (t : Time) (room : List ℕ) → line_written t room ≡ answer_by (leb 86400 (nat_abs t.offset)) (seconds_in_range t.seconds && is_in (pos 0) (pos 9999) (line_year t)) (ltb (length room) 25)
unfolding line_written line_instant
line_answer t room =
    let y : ℕ = clock_year (line_clock t) in
    by_test (leb 86400 (nat_abs t.offset)) (λ a. rw a)
    (λ a. by_test (seconds_in_range t.seconds)
    (λ b. rw (a, b, le_z-sub-sub 10000 y 10000, le_z-sub-sub y 19999 10000, leb-pred y 20000 (omega arith)))
    (λ b. rw (a, b)))

-- minutes make a whole day, so a cut offset is too wide exactly if the offset is
wide_of_cut : (o : ℤ) → leb 86400 (nat_abs (cut_to_minutes o)) ≡ leb 86400 (nat_abs o)
wide_of_cut o =
    by_test (leb 86400 (nat_abs o))
    (λ e. le-leb 86400 (nat_abs (cut_to_minutes o)) (omega (arith, nat_abs-cut o, leb-true 86400 (nat_abs o) e)) ∙ sym e)
    (λ e. lt-leb 86400 (nat_abs (cut_to_minutes o)) (omega (arith, nat_abs-cut o, leb-false 86400 (nat_abs o) e)) ∙ sym e)

-- of the ISO line: 7 if the offset is a day or wider, 6 if the seconds are out of range or the year that is shown is outside 0 to 9999,
-- 8 if the room has less than 25 bytes, and otherwise the length 25
pub iso_answer : (t : Time) (room : List ℕ) → iso_written t room ≡ answer_by (leb 86400 (nat_abs t.offset)) (seconds_in_range t.seconds && is_in (pos 0) (pos 9999) (shown_year t)) (ltb (length room) 25)
unfolding iso_written shown
iso_answer t room =
    line_answer (shown t) room
    ∙ ap (λ (wide : Bool). answer_by wide (seconds_in_range t.seconds && is_in (pos 0) (pos 9999) (shown_year t)) (ltb (length room) 25)) (wide_of_cut t.offset)

-- ---- which times are refused by 7 and by 6
by_7 : (wide good short : Bool) → (answer_by wide good short ≡ Err Offset) ↔ (wide ≡ true)
by_7 true good short = ((λ e. refl), (λ e. refl))
by_7 false true true = ((λ e. absurd (omega (arith, ap written_number e))), (λ e. absurd (false≢true e)))
by_7 false true false = ((λ e. absurd (omega (arith, ap written_number e))), (λ e. absurd (false≢true e)))
by_7 false false short = ((λ e. absurd (omega (arith, ap written_number e))), (λ e. absurd (false≢true e)))

by_6 : (wide a b short : Bool) → (answer_by wide (a && b) short ≡ Err Range) ↔ ((wide ≡ false) × ((a ≡ false) ⊎ (b ≡ false)))
by_6 true a b short = ((λ e. absurd (omega (arith, ap written_number e))), (λ p. absurd (false≢true (sym p.0))))
by_6 false false b short = ((λ e. (refl, inl refl)), (λ p. refl))
by_6 false true false short = ((λ e. (refl, inr refl)), (λ p. refl))
by_6 false true true true = ((λ e. absurd (omega (arith, ap written_number e))), (λ p. absurd (⊎_elim (λ e. false≢true (sym e)) (λ e. false≢true (sym e)) p.1)))
by_6 false true true false = ((λ e. absurd (omega (arith, ap written_number e))), (λ p. absurd (⊎_elim (λ e. false≢true (sym e)) (λ e. false≢true (sym e)) p.1)))

pub iso_refused_by_7 : (t : Time) (room : List ℕ) → (iso_written t room ≡ Err Offset) ↔ (86400 ≤ nat_abs t.offset)
iso_refused_by_7 t room =
    let n : ℕ = nat_abs t.offset in
    let q = by_7 (leb 86400 n) (seconds_in_range t.seconds && is_in (pos 0) (pos 9999) (shown_year t)) (ltb (length room) 25) in (
      (λ e. leb-true 86400 n (q.0 (sym (iso_answer t room) ∙ e))),
      (λ h. iso_answer t room ∙ q.1 (le-leb 86400 n h)),
    )

-- if it is not 7: the seconds are out of range, or the year at the cut offset is outside 0 to 9999
pub iso_refused_by_6 : (t : Time) (room : List ℕ)
    → (iso_written t room ≡ Err Range)
    ↔ ((nat_abs t.offset < 86400) × ((seconds_in_range t.seconds ≡ false) ⊎ (is_in (pos 0) (pos 9999) (shown_year t) ≡ false)))
iso_refused_by_6 t room =
    let n : ℕ = nat_abs t.offset in
    let q = by_6 (leb 86400 n) (seconds_in_range t.seconds) (is_in (pos 0) (pos 9999) (shown_year t)) (ltb (length room) 25) in (
      (λ e. let p = q.0 (sym (iso_answer t room) ∙ e) in (leb-false 86400 n p.0, p.1)),
      (λ p. iso_answer t room ∙ q.1 (lt-leb 86400 n p.0, p.1)),
    )

-- ---- where year 0 begins
pub shown_year_in_seconds : (t : Time) → nat_abs t.offset < 86400 → seconds_in_range t.seconds ≡ true
    → is_in (pos 0) (pos 9999) (shown_year t) ≡ le_z year_zero (t.seconds +ℤ cut_to_minutes t.offset)
unfolding shown
shown_year_in_seconds t h e = line_year_in_seconds (time_at t.seconds (cut_to_minutes t.offset)) (omega (arith, nat_abs-cut t.offset)) e

-- the cut is less than a minute, so it moves no instant over a second that is 60 or more away
same_side : (s o : ℤ) → 60 ≤ nat_abs (s +ℤ o -ℤ year_zero) → le_z year_zero (s +ℤ cut_to_minutes o) ≡ le_z year_zero (s +ℤ o)
same_side s o h =
    let d : ℤ = s +ℤ o -ℤ year_zero in
    let c : ℤ = cut_to_minutes o in
    let far = nat_abs-parts d in
    let one = one_up d in
    let move = add_parts (s +ℤ o) (neg_ℤ year_zero) in
    let full = add_parts s o in
    let cut = add_parts s c in
    let up = up_cut o in
    let dn = dn_cut o in
    by_test (le_z year_zero (s +ℤ o))
    (λ e. le_z-true {a = year_zero} {b = s +ℤ c} (omega (ints, far, one, move, full, cut, up, dn, le_yes (lit year_zero) (lit (s +ℤ o)) e)) ∙ sym e)
    (λ e. le_z-false {a = year_zero} {b = s +ℤ c} (omega (ints, far, one, move, full, cut, up, dn, le_no (lit year_zero) (lit (s +ℤ o)) e)) ∙ sym e)

-- so a line at the cut offset is refused as one at the full offset would be, but within 59 seconds of the start of year 0
pub refusals_move_only_near_year_0 : (t : Time) (room : List ℕ) → 60 ≤ nat_abs (t.seconds +ℤ t.offset -ℤ year_zero) → iso_written t room ≡ line_written t room
refusals_move_only_near_year_0 t room h =
    let n : ℕ = nat_abs t.offset in
    iso_answer t room
    ∙ by_test (leb 86400 n) (λ a. rw a)
    (λ a. by_test (seconds_in_range t.seconds)
    (λ b.
    let k = leb-false 86400 n a in
    rw (shown_year_in_seconds t k b, line_year_in_seconds t k b, same_side t.seconds t.offset h))
    (λ b. rw b))
    ∙ sym (line_answer t room)
