-- What writing a strip answers and leaves in the room, for each of its three cases: no such month (`written_nothing`), a room that is too short
-- (`written_short`), and the 50 bytes of the strip (`written_at`, by `length-strip_bytes`).
-- Assumes nothing.
use Rattle.std.specs.Prelude.{Err, None, Ok, Result, Some}
use mathlib.Core.Path.{◌≡◌, refl, sym, ap, ◌∙◌}
use mathlib.Core.List.{List, ◌++◌}
use Prim.Native.Nat.{ℕ, ◌≤◌, ◌<◌}
use native.Mathlib.Omega.{arith}
use lib.IntN.{ℤ}
use lib.ListN.{length, drop, length-append}
use borrow.Author.Tests.{le-leb, lt-leb}
use Rattle.text.specs.Room.{room_after}
use Rattle.time.specs.Answers.{is_written}
use Rattle.time.specs.declared.Refusal.TheVariants.{Range, Room}
use Rattle.strip.specs.Strip.{weeks_of, days_of, week_at, shown_at, month_in, month_strip, strip_of, strip_bytes, strip_written}
use Rattle.strip.proofs.Filling.{length-along}
use Rattle.time.specs.declared.Refusal.{Refusal}

pub length-strip_bytes : (m : ℕ) → length (strip_bytes (month_strip m)) ≡ 50
unfolding strip_bytes month_strip
length-strip_bytes m =
    omega (arith, length-append (weeks_of m) (days_of m), length-along (week_at m) 6 0, length-along (shown_at m) 42 0)

-- what a call that answers w leaves in the room
abbrev pub RoomBy : ℤ → ℤ → List ℕ → Result ℕ Refusal → List ℕ → Type 0
RoomBy y m room w room' =
    (w ≡ strip_written y m room)
    × (room' ≡ room_after (is_written (strip_written y m room)) (strip_bytes (strip_of y m).strip) room)

pub written_nothing : (y m : ℤ) (room : List ℕ) → month_in y m ≡ None → RoomBy y m room (Err Range) room
unfolding strip_written
written_nothing y m room e = rw e (refl, refl)

pub written_short : (y m : ℤ) {n : ℕ} (room : List ℕ) → month_in y m ≡ Some n → length room < 50 → RoomBy y m room (Err Room) room
unfolding strip_written
written_short y m room e h = rw (e, lt-leb 50 (length room) h) (refl, refl)

pub written_at : (y m : ℤ) {n : ℕ} (room room' : List ℕ) → month_in y m ≡ Some n → 50 ≤ length room → room' ≡ strip_bytes (month_strip n) ++ drop 50 room → RoomBy y m room (Ok 50) room'
unfolding strip_written strip_of
written_at y m {n} room room' e h p =
    rw (e, le-leb 50 (length room) h) (refl, p ∙ ap (λ (k : ℕ). strip_bytes (month_strip n) ++ drop k room) (sym (length-strip_bytes n)))
