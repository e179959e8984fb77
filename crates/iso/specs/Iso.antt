-- ISO dates as answers: the date must exist (RULES 6.5), and the instant must be in range (RULES 6.9). Years are signed here. The
-- calendar counts them from -10000: its day 0 is 1 January of year -10000, and 1 January 1970 is day 4,371,953.
-- Assumes nothing.
use Rattle.std.specs.Prelude.{ℕ, ◌+◌, ◌*◌, cond, List, ℤ, pos, negsuc, ◌-ℤ◌, Err, None, Ok, Option, Result, Some}
use Rattle.text.specs.Bytes.{ascii}
use Rattle.text.specs.Trim.{trim}
use Rattle.calendar.specs.Civil.{year_count, is_year}
use Rattle.calendar.specs.Dates.{day_number}
use Rattle.time.specs.Answers.{time_at}
use Rattle.time.specs.Range.{seconds_in_range, since1970}
use Rattle.time.specs.declared.Refusal.TheVariants.{NotAscii, Form}
use Rattle.iso.specs.Forms.{form_of}
use Rattle.iso.specs.declared.forms.Local.{Local}
use Rattle.time.specs.declared.Refusal.{Refusal}
use Rattle.time.specs.declared.Time.{Time}

-- the day of a date, which must exist and be in the years -9999 to 9999; no month or day is negative
unfoldable pub day_of : ℤ → ℤ → ℤ → Option ℕ
day_of y (pos m) (pos d) = cond (is_year y) (day_number (year_count y) m d) None
day_of y (pos m) (negsuc d) = None
day_of y (negsuc m) d = None

-- second c of a day, by the clock of offset o; an instant out of range is refused by 2
unfoldable pub moment_of : Option ℕ → ℕ → ℤ → Result Time Refusal
moment_of (Some d) c o =
    let z = since1970 (d * 86400 + c) -ℤ o in
    cond (seconds_in_range z) (Ok (time_at z o)) (Err Form)
moment_of None c o = Err Form

unfoldable pub zoned : Option Local → Result Time Refusal
zoned (Some f) = moment_of (day_of f.year f.month f.day) f.second f.offset
zoned None = Err Form

-- a byte of 128 or more is refused by 1 first; then the trimmed text is read by the forms
unfoldable pub iso_of : List ℕ → Result Time Refusal
iso_of s = cond (ascii s) (zoned (form_of (trim s))) (Err NotAscii)
