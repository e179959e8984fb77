-- RULES 8, "any": the forms in the order in which they are tried. The bound on the pairs of a relative date is a parameter, and so are
-- the limits on a raw date's offset; by RULES 8.3 these are those of rule 1 unless the caller names a rule.
-- Assumes nothing.
use Rattle.std.specs.Prelude.{ℕ, ◌-◌, ◌^◌, Bool, true, false, cond, List, [], ◌∷◌, eqb, ℤ, pos, negsuc, Err, None, Ok, Option, Result, Some}
use Prim.Native.Char.{code}
use Rattle.std.specs.Int.Signed.{le_z}
use Rattle.text.specs.Bytes.{ascii}
use Rattle.text.specs.Number.{signed_of, fit_signed}
use Rattle.time.specs.Answers.{time_at}
use Rattle.time.specs.declared.Refusal.{Refusal}
use Rattle.time.specs.declared.Refusal.TheVariants.{NotAscii, Form, Missing, Current, Pairs, Range, Offset, Room, Book, TooLarge, Lists}
use Rattle.header.specs.Raw.{Limits, raw_of}
use Rattle.iso.specs.Iso.{iso_of}
use Rattle.relative.specs.Relative.{relative_of}
use Rattle.time.specs.declared.Time.{Time}

-- whether a refusal ends the search: every one but 2 and 11, after which the next form is tried. No reader answers 7, 8 or 10
abbrev pub settles : Refusal → Bool
settles Form = false
settles TooLarge = false
settles NotAscii = true
settles Missing = true
settles Current = true
settles Pairs = true
settles Range = true
settles Offset = true
settles Room = true
settles Book = true
settles Lists = true

-- whether an answer ends the search: a time does too
abbrev pub is_settled : Result Time Refusal → Bool
is_settled (Ok t) = true
is_settled (Err r) = settles r

-- the first answer, or, failing that, the second
abbrev pub or_else : Result Time Refusal → Result Time Refusal → Result Time Refusal
or_else a b = cond (is_settled a) a b

-- a number of at least `least`, as seconds at offset 0
abbrev pub numbered : ℤ → Option ℤ → Result Time Refusal
numbered least (Some z) = cond (le_z least z) (Ok (time_at z (pos 0))) (Err Form)
numbered least None = Err Form

-- the text as a 64-bit number of at least `least`
unfoldable pub number_from : ℤ → List ℕ → Result Time Refusal
number_from least s = numbered least (fit_signed (2 ^ 63) (signed_of s))

-- the least 64-bit number, -2^63
abbrev pub least64 : ℤ
least64 = negsuc (2 ^ 63 - 1)

-- RULES 8.1, what follows `@`: a raw date, or else a 64-bit number at offset 0
unfoldable pub marked_of : Limits → List ℕ → Result Time Refusal
marked_of l s = or_else (raw_of l s) (number_from least64 s)

-- RULES 8.1: if the first byte is `@`
unfoldable pub at_of : Limits → List ℕ → Result Time Refusal
at_of l [] = Err Form
at_of l (b ∷ s) = cond (eqb b (code "@")) (marked_of l s) (Err Form)

-- the least number that is read as seconds without `@`
abbrev pub least_plain : ℤ
least_plain = pos 100000000

-- RULES 8.2, failing that: the whole text as a 64-bit number of at least 100000000
unfoldable pub plain_of : Limits → List ℕ → Result Time Refusal
plain_of l s = or_else (at_of l s) (number_from least_plain s)

-- RULES 8.2: then by the ISO forms; as a relative date, whose refusal other than 2 is the answer; as a raw date, whose refusal, 2 or
-- 11, is the answer then. By RULES 2.2 the test for 1, a byte of 128 or more, comes first
unfoldable pub any_of : ℕ → Limits → List ℕ → Option Time → Result Time Refusal
any_of bound l s now =
    cond (ascii s)
    (or_else (plain_of l s) (or_else (iso_of s) (or_else (relative_of bound s now) (raw_of l s))))
    (Err NotAscii)
