-- Raw dates (RULES 5.6 and 5.7). The limits on hours and minutes are a parameter, which a rule fixes. Three examples: by both
-- rules `5 +1445` is 5 at offset 53100 and `5 ++5+0` is 5 at offset 18000; `5 +0520` is 5 at offset 19200 by rule 2, and 2 by
-- rule 1.
-- Assumes nothing.
use Rattle.std.specs.Prelude.{ℕ, Bool, cond, ◌&&◌, ◌||◌, List, [], ◌∷◌, ℤ, pos, Err, None, Ok, Option, Result, Some}
use Rattle.std.specs.Int.Signed.{le_z, lt_z}
use Rattle.ints.specs.Equal.{eq_z}
use Rattle.text.specs.Bytes.{is_space, ascii}
use Rattle.text.specs.Words.{words}
use Rattle.time.specs.declared.Refusal.TheVariants.{NotAscii, Form, TooLarge as NumberTooLarge}
use Rattle.header.specs.Offset.{only_word, fields_of, read_time, Byte}
use Rattle.header.specs.Header.{number64}
use Rattle.header.specs.declared.offset.Fields.{Fields}
use Rattle.header.specs.declared.raw.Rule.{Rule}
use Rattle.header.specs.declared.raw.Rule.TheVariants.{One, Two}
use Rattle.text.specs.declared.number.NumberError.TheVariants.{TooLarge, NoNumber}
use Rattle.text.specs.declared.number.NumberError.{NumberError}
use Rattle.time.specs.declared.Refusal.{Refusal}
use Rattle.time.specs.declared.Time.{Time}

-- which hours and which minutes are allowed
pub record Limits : Type 0 where
  pub hours : ℤ → Bool
  pub minutes : ℤ → Bool

-- rule 1: hours are at most 14; minutes are 0, 15, 30 or 45
abbrev pub rule1 : Limits
rule1 =
    record {
      hours = λ h. le_z h (pos 14);
      minutes = λ m. eq_z m (pos 0) || eq_z m (pos 15) || eq_z m (pos 30) || eq_z m (pos 45);
    }

-- rule 2: hours are below 24; minutes are below 60
abbrev pub rule2 : Limits
rule2 = record { hours = λ h. lt_z h (pos 24); minutes = λ m. lt_z m (pos 60) }

-- the limits of a rule
abbrev pub limits_of : Rule → Limits
limits_of One = rule1
limits_of Two = rule2

-- the fields are within the limits, and seconds are 0
unfoldable pub allows : Limits → Fields → Bool
allows l f = l.hours f.hours && l.minutes f.minutes && eq_z f.seconds (pos 0)

-- a number that is too large is 11 (RULES 5.9). Otherwise the answer is 2 unless there are a number and an offset, and the limits
-- allow its fields
abbrev pub raw_time : Limits → Result ℤ NumberError → Option Fields → Result Time Refusal
raw_time l (Ok s) (Some f) = cond (allows l f) (Ok (read_time s f)) (Err Form)
raw_time l (Ok s) None = Err Form
raw_time l (Err TooLarge) p = Err NumberTooLarge
raw_time l (Err NoNumber) p = Err Form

-- RULES 5.6: exactly two words, of which the first is a 64-bit number and the second an offset; RULES 5.7: its fields are
-- unsigned 8-bit numbers
unfoldable pub raw_of_words : Limits → List (List ℕ) → Result Time Refusal
raw_of_words l [] = Err Form
raw_of_words l (w ∷ ws) = raw_time l (number64 w) (fields_of Byte (only_word ws))

-- a byte of 128 or more is 1 (RULES 2.1)
unfoldable pub raw_of : Limits → List ℕ → Result Time Refusal
raw_of l s = cond (ascii s) (raw_of_words l (words is_space s)) (Err NotAscii)
