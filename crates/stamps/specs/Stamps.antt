-- Numbers as the header writer prints them, and stamps (RULES 13.5 and 13.6). Three examples: `5 +0130` is a stamp; `5 -0000` is one, of 5
-- at offset 0 with the mark; `5 -000000` is none, since it is read as that same time, which is written `5 -0000`.
-- Assumes nothing.
use Rattle.std.specs.Prelude.{ℕ, ◌%◌, Bool, cond, ◌&&◌, List, eqb, ℤ, nat_abs, Err, None, Ok, Option, Result, Some}
use Rattle.text.specs.Bytes.{same}
use Rattle.text.specs.Decimal.{signed}
use Rattle.text.specs.Number.{signed_of}
use Rattle.time.specs.Header.{header_bytes}
use Rattle.header.specs.Header.{header_of}
use Rattle.time.specs.declared.Refusal.{Refusal}
use Rattle.time.specs.declared.Time.{Time}

-- a number that is printed as the header writer prints seconds: the text is the plain decimal of the number that it is read as
abbrev pub printed_as : Option ℤ → List ℕ → Option ℤ
printed_as (Some z) s = cond (same s (signed z)) (Some z) None
printed_as None s = None

unfoldable pub printed : List ℕ → Option ℤ
printed s = printed_as (signed_of s) s

-- an offset of whole minutes
unfoldable pub is_whole_minutes : ℤ → Bool
is_whole_minutes o = eqb (nat_abs o % 60) 0

-- a stamp: the text is what the header writer writes for the time that the header reader reads from it, at an offset of whole minutes
abbrev pub stamp_as : Result Time Refusal → List ℕ → Option Time
stamp_as (Ok t) s = cond (is_whole_minutes t.offset && same s (header_bytes t)) (Some t) None
stamp_as (Err r) s = None

unfoldable pub stamp_of : List ℕ → Option Time
stamp_of s = stamp_as (header_of s) s
