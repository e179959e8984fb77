-- The number, time and length that each answer returns (RULES 2.1).
-- Assumes nothing.
use Rattle.std.specs.Prelude.{ℕ, Bool, true, false, ℤ, pos, Err, Ok, Result}
use Rattle.time.specs.declared.Time.{Time}
use Rattle.time.specs.declared.Refusal.{Refusal}
use Rattle.time.specs.declared.Refusal.TheVariants.{NotAscii, Form, Missing, Current, Pairs, Range, Offset, Room, Book, TooLarge, Lists}

-- a time with the mark or without it; one without it; and a time less its mark
abbrev pub time_marked : ℤ → ℤ → Bool → Time
time_marked s o m = record { seconds = s; offset = o; mark = m }

abbrev pub time_at : ℤ → ℤ → Time
time_at s o = time_marked s o false

abbrev pub unmarked : Time → Time
unmarked t = time_at t.seconds t.offset

abbrev pub number_of : Refusal → ℕ
number_of NotAscii = 1
number_of Form = 2
number_of Missing = 3
number_of Current = 4
number_of Pairs = 5
number_of Range = 6
number_of Offset = 7
number_of Room = 8
number_of Book = 10
number_of TooLarge = 11
number_of Lists = 12

-- success is 0
abbrev pub answer_number : Result Time Refusal → ℕ
answer_number (Ok t) = 0
answer_number (Err r) = number_of r

-- a refusal returns seconds 0 and offset 0, without the mark
abbrev pub answer_time : Result Time Refusal → Time
answer_time (Ok t) = t
answer_time (Err r) = time_at (pos 0) (pos 0)

abbrev pub written_number : Result ℕ Refusal → ℕ
written_number (Ok n) = 0
written_number (Err r) = number_of r

-- and length 0, from a writer
abbrev pub written_length : Result ℕ Refusal → ℕ
written_length (Ok n) = n
written_length (Err r) = 0

-- whether a writer wrote
abbrev pub is_written : Result ℕ Refusal → Bool
is_written (Ok n) = true
is_written (Err r) = false
