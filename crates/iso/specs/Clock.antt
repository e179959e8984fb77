-- Times of day (RULES 6.7), as a second of the day from 0 to 86,399.
-- Assumes nothing.
use Rattle.std.specs.Prelude.{ℕ, ◌+◌, ◌*◌, ◌-◌, ◌^◌, Bool, cond, List, [], ◌∷◌, eqb, length, None, Option, Some}
use Prim.Native.Char.{code}
use Rattle.text.specs.Number.{fit, unsigned_of}
use Rattle.text.specs.Places.{has}
use Rattle.text.specs.Quote.{bytes}
use Rattle.text.specs.Words.{pieces}
use Rattle.iso.specs.Parts.{two}

-- an unsigned 32-bit number, up to the limit
unfoldable pub time_part : ℕ → List ℕ → Option ℕ
time_part limit s = fit limit (fit (2 ^ 32 - 1) (unsigned_of s))

-- the second of the day of an hour, a minute and a second
unfoldable pub second_of : Option ℕ → Option ℕ → Option ℕ → Option ℕ
second_of (Some h) (Some m) (Some s) = Some (h * 3600 + m * 60 + s)
second_of (Some h) (Some m) None = None
second_of (Some h) None s = None
second_of None m s = None

-- hours go to 23, minutes and seconds to 59
unfoldable pub clock : List ℕ → List ℕ → List ℕ → Option ℕ
clock h m s = second_of (time_part 23 h) (time_part 59 m) (time_part 59 s)

abbrev pub is_colon : ℕ → Bool
is_colon b = eqb b (code ":")

-- with colons: the first two or three parts; further parts are ignored
unfoldable pub colon_time : List (List ℕ) → Option ℕ
colon_time [] = None
colon_time (h ∷ []) = None
colon_time (h ∷ m ∷ []) = clock h m (bytes "0")
colon_time (h ∷ m ∷ s ∷ ws) = clock h m s

-- without: one to three two-byte fields
unfoldable pub plain_time : List ℕ → Option ℕ
plain_time t =
    cond (eqb (length t) 2) (clock (two 0 t) (bytes "0") (bytes "0"))
    (cond (eqb (length t) 4) (clock (two 0 t) (two 2 t) (bytes "0"))
    (cond (eqb (length t) 6) (clock (two 0 t) (two 2 t) (two 4 t)) None))

unfoldable pub iso_time : List ℕ → Option ℕ
iso_time t = cond (has (code ":") t) (colon_time (pieces is_colon t)) (plain_time t)
