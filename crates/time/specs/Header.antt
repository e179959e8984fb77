-- Headers as they are written (RULES 9.1 to 9.3): the bytes of a header, their number, and when one is refused (RULES 2.5).
-- Assumes nothing.
use Rattle.std.specs.Prelude.{ℕ, suc, ◌+◌, ◌-◌, ◌*◌, ◌/◌, ◌%◌, ◌^◌, Bool, cond, ◌&&◌, List, [], ◌∷◌, leb, ltb, ℤ, pos, negsuc, neg_ℤ, nat_abs, length, Err, Ok, Result}
use Prim.Native.Char.{code}
use Rattle.ints.specs.Equal.{eq_z}
use Rattle.text.specs.Decimal.{signed, signed_before, two_before}
use Rattle.time.specs.Answers.{time_at}
use Rattle.time.specs.declared.Time.{Time}
use Rattle.time.specs.declared.Refusal.TheVariants.{Offset, Room}
use Rattle.time.specs.declared.Refusal.{Refusal}

-- `-` for a negative offset and otherwise `+`
unfoldable pub sign_byte : ℤ → ℕ
sign_byte (pos n) = code "+"
sign_byte (negsuc n) = code "-"

-- whether the mark of a time counts: beside offset 0 it does, beside any other offset it is ignored
abbrev pub is_minus_zero : Time → Bool
is_minus_zero t = t.mark && eq_z t.offset (pos 0)

-- the sign in the header of a time: offset 0 with the mark has `-`
unfoldable pub header_sign : Time → ℕ
header_sign t = cond (is_minus_zero t) (code "-") (sign_byte t.offset)

-- the minutes of an offset, its seconds dropped
unfoldable pub whole_minutes : ℤ → ℕ
whole_minutes o = nat_abs o / 60

-- a sign, two digits of hours, two of minutes
abbrev pub offset_bytes : ℕ → ℕ → List ℕ
offset_bytes sign minutes = sign ∷ two_before (minutes / 60) (two_before (minutes % 60) [])

abbrev pub space : ℕ
space = code " "

unfoldable pub header_bytes : Time → List ℕ
header_bytes t = signed_before t.seconds (space ∷ offset_bytes (header_sign t) (whole_minutes t.offset))

-- the length of the seconds in plain decimal plus 6, also for an offset that is too wide to write
unfoldable pub size_of : ℤ → ℕ
size_of z = length (signed z) + 6

-- refused by 7 if the size of the offset is 360000 or more, then by 8 if the room is too short
unfoldable pub header_written : Time → List ℕ → Result ℕ Refusal
header_written t room =
    cond (leb 360000 (nat_abs t.offset)) (Err Offset)
    (cond (ltb (length room) (size_of t.seconds)) (Err Room) (Ok (size_of t.seconds)))

-- the smallest and the largest time that a header can carry
abbrev pub smallest_time : Time
smallest_time = time_at (negsuc (2 ^ 63 - 1)) (negsuc 359998)

abbrev pub largest_time : Time
largest_time = time_at (pos (2 ^ 63 - 1)) (pos 359999)

-- an offset cut toward zero to whole minutes: what a header or an ISO line keeps of it
unfoldable pub cut_to_minutes : ℤ → ℤ
cut_to_minutes (pos n) = pos (n / 60 * 60)
cut_to_minutes (negsuc n) = neg_ℤ (pos (suc n / 60 * 60))
