-- The range of times (RULES 2.4). Where the calendar works on them, seconds and offsets are counted from 0: second 0 is the first of
-- 1 January of year -10000, so that 1970 begins at second 377,736,739,200; offsets are counted from -93600, so that UTC is 93,600.
-- Assumes nothing.
use Rattle.std.specs.Prelude.{ℕ, ◌≤◌, Bool, cond, ◌&&◌, ℤ, pos, negsuc, nat_abs, ◌+ℤ◌, ◌-ℤ◌, Err, None, Ok, Option, Result, Some}
use Rattle.ints.specs.Range.{is_in}
use Rattle.time.specs.Answers.{time_at}
use Rattle.time.specs.declared.Time.{Time}
use Rattle.time.specs.declared.Refusal.TheVariants.{Range}
use Rattle.time.specs.declared.range.Instant.{Instant}
use Rattle.time.specs.declared.Refusal.{Refusal}

-- seconds -377705023201 to 253402207200
abbrev pub least_seconds : ℤ
least_seconds = negsuc 377705023200

abbrev pub most_seconds : ℤ
most_seconds = pos 253402207200

unfoldable pub seconds_in_range : ℤ → Bool
seconds_in_range z = is_in least_seconds most_seconds z

-- offset of a current time -93599 to 93599
abbrev pub least_offset : ℤ
least_offset = negsuc 93598

abbrev pub most_offset : ℤ
most_offset = pos 93599

unfoldable pub offset_in_range : ℤ → Bool
offset_in_range z = is_in least_offset most_offset z

unfoldable pub time_in_range : Time → Bool
time_in_range t = seconds_in_range t.seconds && offset_in_range t.offset

-- seconds from 0, as seconds since 1970; and the time of an instant
abbrev pub since1970 : ℕ → ℤ
since1970 n = pos n -ℤ pos 377736739200

abbrev pub time_of : Instant → Time
time_of i = time_at (since1970 i.seconds) (pos i.offset -ℤ pos 93600)

-- the other way, of a time in range: neither sum is negative there
abbrev pub instant_of : Time → Instant
instant_of t = record { seconds = nat_abs (t.seconds +ℤ pos 377736739200); offset = nat_abs (t.offset +ℤ pos 93600) }

unfoldable pub moved_of : Time → Option Instant
moved_of t = cond (time_in_range t) (Some (instant_of t)) None

-- an instant as an answer: refused by 6 if its time is out of range
unfoldable pub answer_at : Instant → Result Time Refusal
answer_at i = cond (time_in_range (time_of i)) (Ok (time_of i)) (Err Range)

-- the range in these numbers
pub record InRange (i : Instant) : Type 0 where
  pub early : 31715999 ≤ i.seconds
  pub late : i.seconds ≤ 631138946400
  pub west : 1 ≤ i.offset
  pub east : i.offset ≤ 187199

abbrev pub MovedInRange : Option Instant → Type 0
MovedInRange (Some i) = InRange i
MovedInRange None = Unit {0}
