-- The ISO line. In order: which time has a line, and of which instant; the writer's answers, each with the room that it leaves; what
-- the time of a line that was written is like.
-- Assumes nothing.
use Rattle.std.specs.Prelude.{Err, Ok, Result}
use Rattle.std.specs.Option.{ok_or}
use mathlib.Core.Path.{◌≡◌, refl, sym}
use mathlib.Core.Bool.{true, ◌&&◌, ◌||◌, and-true}
use mathlib.Core.List.{List, ◌++◌}
use Prim.Native.Nat.{ℕ, suc, ◌/◌, ◌≤◌, ◌<◌}
use native.Mathlib.Omega.{arith}
use borrow.Author.Tests.{le-leb, lt-leb, lt-ltb, le-ltb, leb-true, leb-false, ltb-true}
use lib.Dec.{leb, ltb}
use lib.IntN.{ℤ, pos, negsuc, nat_abs}
use lib.ListN.{length, take, drop}
use lib.Signed.{le_z}
use Rattle.ints.specs.Range.{In}
use Rattle.ints.proofs.Parts.{parts-le}
use Rattle.ints.proofs.Machine.{is_in_of_In}
use Rattle.text.specs.Room.{room_after}
use Rattle.text.proofs.Lists.{by_test, both}
use Rattle.text.proofs.Putting.{put_put}
use Rattle.time.specs.Range.{least_offset, most_offset, seconds_in_range, offset_in_range, time_in_range, instant_of, moved_of}
use Rattle.time.specs.Answers.{is_written}
use Rattle.time.specs.Clock.{clock_of}
use Rattle.time.specs.Iso.{line_clock, clock_year, date_before, clock_before, offset_before, clock_line, line_bytes, line_instant, written_for, line_written}
use Rattle.time.specs.declared.Time.{Time}
use Rattle.time.specs.declared.Refusal.{Refusal}
use Rattle.time.specs.declared.Refusal.TheVariants.{Offset, Range, Room}
use Rattle.time.specs.declared.range.Instant.{Instant}
use Rattle.time.specs.declared.clock.Clock.{Clock}

-- ---- which time has a line
-- an offset is too wide if it is at most minus a day, or at least a day
pub wide_of_tests : (z : ℤ) → (le_z z (negsuc 86399) || le_z (pos 86400) z) ≡ leb 86400 (nat_abs z)
wide_of_tests (pos n) = refl
wide_of_tests (negsuc n) =
    by_test (leb 86399 n) (λ e. rw e (sym (le-leb 86400 (suc n) (omega (arith, leb-true 86399 n e)))))
    (λ e. rw e (sym (lt-leb 86400 (suc n) (omega (arith, leb-false 86399 n e)))))

pub line_instant_of_wide : (t : Time) → 86400 ≤ nat_abs t.offset → Err Offset ≡ line_instant t
unfolding line_instant
line_instant_of_wide t h = rw (le-leb 86400 (nat_abs t.offset) h)

-- an offset under a day is in range
offset_in : (z : ℤ) → nat_abs z < 86400 → In least_offset most_offset z
offset_in (pos n) h = record { low = parts-le _ _ (omega arith); high = parts-le _ _ (omega arith) }
offset_in (negsuc n) h = record { low = parts-le _ _ (omega arith); high = parts-le _ _ (omega arith) }

-- so that the move to numbers from 0 depends on the seconds alone
pub time_in_range_of_narrow : (t : Time) → nat_abs t.offset < 86400 → time_in_range t ≡ seconds_in_range t.seconds
unfolding time_in_range offset_in_range
time_in_range_of_narrow t h = rw (is_in_of_In (offset_in t.offset h)) (and-true (seconds_in_range t.seconds))

pub line_instant_of_narrow : (t : Time) → nat_abs t.offset < 86400 → ok_or (moved_of t) Range ≡ line_instant t
unfolding line_instant moved_of
line_instant_of_narrow t h =
    by_test (seconds_in_range t.seconds)
    (λ e. rw (lt-leb 86400 (nat_abs t.offset) h, time_in_range_of_narrow t h, e))
    (λ e. rw (lt-leb 86400 (nat_abs t.offset) h, time_in_range_of_narrow t h, e))

-- a time that has a line
pub record HasLine (t : Time) (i : Instant) : Type 0 where
  pub narrow : nat_abs t.offset < 86400
  pub instant : i ≡ instant_of t

pub HasLine_of_At : (t : Time) (i : Instant) → line_instant t ≡ Ok i → HasLine t i
unfolding line_instant
HasLine_of_At t i e =
    by_test (leb 86400 (nat_abs t.offset)) (λ y. absurd (clash Offset (rw y at e)))
    (λ n. by_test (seconds_in_range t.seconds)
    (λ y. record { narrow = leb-false 86400 (nat_abs t.offset) n; instant = same (rw (n, y) at e) })
    (λ m. absurd (clash Range (rw (n, m) at e))))
  where
    clash : (r : Refusal) → Err r ≡ Ok i → ⊥
    clash r p = let z : ◌≡◌ {A = ℕ} 0 1 = cc in omega arith

    same : ◌≡◌ {A = Result Instant Refusal} (Ok (instant_of t)) (Ok i) → i ≡ instant_of t
    same p = cc

-- ---- the answers of the line's writer: r, with the room that it leaves; first those of a clock's line, at an offset
abbrev WroteClock : Result ℕ Refusal → List ℕ → Clock → ℤ → List ℕ → Type 0
WroteClock r after c o room = (r ≡ written_for c room) × (after ≡ room_after (is_written (written_for c room)) (clock_line c o) room)

pub wrote_clock-whole : (c : Clock) (o : ℤ) (room r₁ r₂ r₃ : List ℕ) → 120000 ≤ c.date.month → c.date.month < 240000 → 25 ≤ length room
    → r₁ ≡ take 19 room ++ offset_before o (drop 25 room) → r₂ ≡ take 10 r₁ ++ clock_before c (drop 19 r₁) → r₃ ≡ date_before c (drop 10 r₂)
    → r₃ ≡ room_after (is_written (written_for c room)) (clock_line c o) room
wrote_clock-whole c o room r₁ r₂ r₃ h g l e₁ e₂ e₃ =
    let y = le-leb 10000 (c.date.month / 12) (omega arith) in
    let z = lt-ltb (c.date.month / 12) 20000 (omega arith) in
    let s = le-ltb (length room) 25 l in
    let two = put_put (clock_before c) room _ r₁ r₂ 10 10 19 e₁ e₂ refl (omega arith) (omega arith) in
    let three = put_put (date_before c) room _ r₂ r₃ 0 0 10 two e₃ refl (omega arith) (omega arith) in
    rw (y, z, s) three

-- and of a time's
abbrev WroteLine : Result ℕ Refusal → List ℕ → Time → List ℕ → Type 0
WroteLine r after t room = (r ≡ line_written t room) × (after ≡ room_after (is_written (line_written t room)) (line_bytes t) room)

pub wrote_line-not : (t : Time) (r : Refusal) (room : List ℕ) → line_instant t ≡ Err r → WroteLine (Err r) room t room
unfolding line_written
wrote_line-not t r room e = (rw e, rw e)

pub wrote_line-At : (t : Time) (i : Instant) (o : ℤ) (room : List ℕ) (r : Result ℕ Refusal) (after : List ℕ) → line_instant t ≡ Ok i → o ≡ t.offset
    → WroteClock r after (clock_of i) o room → WroteLine r after t room
unfolding line_written line_bytes
wrote_line-At t i o room r after e p w =
    let d = (HasLine_of_At t i e).instant in
    rw (e, ← d, ← p) w

-- ---- what the time of a line that was written is like, and that n, the answer, is 25
pub record WasWritten (t : Time) (n : ℕ) : Type 0 where
  pub narrow : nat_abs t.offset < 86400
  pub seconds : seconds_in_range t.seconds ≡ true
  pub year_low : 120000 ≤ (line_clock t).date.month
  pub year_high : (line_clock t).date.month < 240000
  pub length : n ≡ 25

pub was_written : (t : Time) (room : List ℕ) (n : ℕ) → line_written t room ≡ Ok n → WasWritten t n
unfolding line_written line_instant
was_written t room n e =
    let c : Clock = line_clock t in
    by_test (leb 86400 (nat_abs t.offset)) (λ y. absurd (clash Offset (rw y at e)))
    (λ a. by_test (seconds_in_range t.seconds)
    (λ b. by_test (leb 10000 (clock_year c) && ltb (clock_year c) 20000)
    (λ y.
    let p = both (leb 10000 (clock_year c)) (ltb (clock_year c) 20000) y in
    let l : 10000 ≤ clock_year c = leb-true 10000 (clock_year c) p.0 in
    let h : clock_year c < 20000 = ltb-true (clock_year c) 20000 p.1 in
    by_test (ltb (length room) 25) (λ k. absurd (clash Room (rw (a, b, y, k) at e)))
    (λ k. record { narrow = leb-false 86400 (nat_abs t.offset) a; seconds = b; year_low = omega arith; year_high = omega arith; length = same (rw (a, b, y, k) at e) }))
    (λ m. absurd (clash Range (rw (a, b, m) at e))))
    (λ m. absurd (clash Range (rw (a, m) at e))))
  where
    clash : (r : Refusal) → Err r ≡ Ok n → ⊥
    clash r p = let z : ◌≡◌ {A = ℕ} 0 1 = cc in omega arith

    same : ◌≡◌ {A = Result ℕ Refusal} (Ok 25) (Ok n) → n ≡ 25
    same p = cc
