-- What the theorems about times speak of (docs/PROMISES.md): the times that a header can carry, the shape of a line, the year that a line
-- shows, and the answers of its writer in their order; a reader's answer beside the one that it gave before there was an 11. No contract
-- cites these.
-- Assumes nothing.
use Prim.Native.Char.{code}
use Rattle.std.specs.Prelude.{ℕ, ◌<◌, Bool, true, false, cond, ◌&&◌, ◌≡◌, List, [], ◌∷◌, ◌⊎◌, eqb, ℤ, pos, negsuc, nat_abs, ◌-ℤ◌, Err, Ok, Result}
use Rattle.std.specs.Int.{w64}
use Rattle.std.proofs.Common.{SFits}
use Rattle.text.specs.Bytes.{is_digit, is_sign}
use Rattle.time.specs.Iso.{line_clock, clock_year, shown}
use Rattle.time.specs.declared.Time.{Time}
use Rattle.time.specs.declared.Refusal.TheVariants.{Form, Offset, Range, Room, TooLarge}
use Rattle.time.specs.declared.Refusal.{Refusal}

-- a time that a header can carry: seconds that 64 bits hold, an offset under 100 hours
pub record HasHeader (t : Time) : Type 0 where
  pub seconds : SFits w64 t.seconds
  pub offset : nat_abs t.offset < 360000

-- whether a byte is as a pattern's byte says: `0` is any digit, `+` is either sign, any other byte is itself
abbrev pub like_byte : ℕ → ℕ → Bool
like_byte p b = cond (eqb p (code "0")) (is_digit b) (cond (eqb p (code "+")) (is_sign b) (eqb b p))

-- whether a text is as a pattern says, byte for byte
abbrev pub is_like : List ℕ → List ℕ → Bool
is_like [] [] = true
is_like [] (b ∷ s) = false
is_like (p ∷ ps) [] = false
is_like (p ∷ ps) (b ∷ s) = like_byte p b && is_like ps s

-- the year of the line of a time as it is, and of the line that is written
abbrev pub line_year : Time → ℤ
line_year t = pos (clock_year (line_clock t)) -ℤ pos 10000

abbrev pub shown_year : Time → ℤ
shown_year t = line_year (shown t)

-- the first second of year 0 at offset 0
abbrev pub year_zero : ℤ
year_zero = negsuc 62167219199

-- the answer of the ISO writer, from three tests in the order 7, 6, 8: the offset is too wide; seconds and year are as they should be; the
-- room is too short
abbrev pub answer_by : Bool → Bool → Bool → Result ℕ Refusal
answer_by wide good short = cond wide (Err Offset) (cond good (cond short (Err Room) (Ok 25)) (Err Range))

-- an answer that is as it was before there was an 11; or it was 2, and is 11 now
abbrev pub AsBefore : Result Time Refusal → Result Time Refusal → Type 0
AsBefore was now = (now ≡ was) ⊎ ((was ≡ Err Form) × (now ≡ Err TooLarge))
