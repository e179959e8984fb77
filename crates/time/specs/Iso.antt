-- ISO lines as they are written (RULES 9.4): `YYYY-MM-DDTHH:MM:SS+HH:MM`, 25 bytes. In two layers: the line of a time as it is, then
-- the time that a line shows.
-- Assumes nothing.
use Rattle.std.specs.Prelude.{ℕ, ◌+◌, ◌-◌, ◌/◌, ◌%◌, cond, ◌&&◌, List, [], ◌∷◌, leb, ltb, ℤ, nat_abs, length, Err, Ok, Result}
use Prim.Native.Char.{code}
use Rattle.text.specs.Decimal.{two_before}
use Rattle.time.specs.Answers.{time_at}
use Rattle.time.specs.Clock.{clock_of}
use Rattle.time.specs.Header.{sign_byte, whole_minutes, cut_to_minutes}
use Rattle.time.specs.Range.{seconds_in_range, instant_of}
use Rattle.time.specs.declared.Time.{Time}
use Rattle.time.specs.declared.Refusal.TheVariants.{Offset, Range, Room}
use Rattle.time.specs.declared.clock.Clock.{Clock}
use Rattle.time.specs.declared.range.Instant.{Instant}
use Rattle.time.specs.declared.Refusal.{Refusal}

-- ---- the line of a time as it is
abbrev pub line_clock : Time → Clock
line_clock t = clock_of (instant_of t)

-- the year of a clock, from year -10000
abbrev pub clock_year : Clock → ℕ
clock_year c = c.date.month / 12

-- `b` and two digits of n, in front of t
abbrev pub field_before : ℕ → ℕ → List ℕ → List ℕ
field_before b n t = b ∷ two_before n t

-- `YYYY-MM-DD`, in front of t
abbrev pub date_before : Clock → List ℕ → List ℕ
date_before c t =
    two_before ((clock_year c - 10000) / 100) (two_before ((clock_year c - 10000) % 100)
    (field_before (code "-") (c.date.month % 12 + 1) (field_before (code "-") (c.date.day + 1) t)))

-- `THH:MM:SS`
abbrev pub clock_before : Clock → List ℕ → List ℕ
clock_before c t =
    field_before (code "T") (c.second / 3600)
    (field_before (code ":") (c.second / 60 % 60) (field_before (code ":") (c.second % 60) t))

-- `+HH:MM`
abbrev pub offset_before : ℤ → List ℕ → List ℕ
offset_before o t = field_before (sign_byte o) (whole_minutes o / 60) (field_before (code ":") (whole_minutes o % 60) t)

-- all of a line: a clock, and its offset
abbrev pub clock_line : Clock → ℤ → List ℕ
clock_line c o = date_before c (clock_before c (offset_before o []))

unfoldable pub line_bytes : Time → List ℕ
line_bytes t = clock_line (line_clock t) t.offset

-- refused by 7 if the size of the offset is 86400 or more, then by 6 if the seconds are out of range; otherwise the instant
unfoldable pub line_instant : Time → Result Instant Refusal
line_instant t =
    cond (leb 86400 (nat_abs t.offset)) (Err Offset)
    (cond (seconds_in_range t.seconds) (Ok (instant_of t)) (Err Range))

-- refused by 6 too if the local year is outside 0 to 9999, then by 8 if the room is too short
abbrev pub written_for : Clock → List ℕ → Result ℕ Refusal
written_for c room =
    cond (leb 10000 (clock_year c) && ltb (clock_year c) 20000) (cond (ltb (length room) 25) (Err Room) (Ok 25)) (Err Range)

abbrev pub written : Result Instant Refusal → List ℕ → Result ℕ Refusal
written (Ok i) room = written_for (clock_of i) room
written (Err r) room = Err r

unfoldable pub line_written : Time → List ℕ → Result ℕ Refusal
line_written t room = written (line_instant t) room

-- ---- the ISO line of a time
-- the time that a line shows: its offset is cut toward zero to whole minutes first, and fields, year, sign and digits are taken from that
unfoldable pub shown : Time → Time
shown t = time_at t.seconds (cut_to_minutes t.offset)

unfoldable pub iso_bytes : Time → List ℕ
iso_bytes t = line_bytes (shown t)

unfoldable pub iso_written : Time → List ℕ → Result ℕ Refusal
iso_written t room = line_written (shown t) room
