-- The local clock of a time in range: its date and the second of its day. Counts are those of Range and of the calendar: day 0 is
-- 1 January of year -10000; 1 January 1970 is day 4,371,953.
-- Assumes nothing.
use Rattle.std.specs.Prelude.{ℕ, ◌+◌, ◌-◌, ◌/◌, ◌%◌}
use Rattle.calendar.specs.Dates.{date_of}
use Rattle.time.specs.declared.range.Instant.{Instant}
use Rattle.time.specs.declared.clock.Clock.{Clock}

-- the seconds that the clock of the offset shows, from 0
abbrev pub local_of : Instant → ℕ
local_of i = i.seconds + i.offset - 93600

unfoldable pub clock_of : Instant → Clock
clock_of i = record { date = date_of (local_of i / 86400); second = local_of i % 86400 }
