-- The worked examples of headers and raw dates that are marked P (RULES 11.1, 11.3 and 11.4): they are proved together.
-- Assumes nothing.
use Rattle.std.specs.Prelude.{true, List, [], ◌∷◌, ℤ, pos, negsuc, Err, Ok, Result}
use Rattle.text.specs.Quote.{bytes}
use Rattle.time.specs.Answers.{time_at, time_marked}
use Rattle.time.specs.Header.{header_bytes}
use Rattle.time.specs.Rows.{Row, reads, writes}
use Rattle.time.specs.declared.Refusal.TheVariants.{Form}
use Rattle.header.specs.Header.{header_of}
use Rattle.header.specs.Raw.{rule1, raw_of}
use Rattle.time.specs.declared.Refusal.{Refusal}
use Rattle.time.specs.declared.Time.{Time}

-- 5 at an offset; and at offset 0 with the mark
abbrev pub five : ℤ → Result Time Refusal
five o = Ok (time_at (pos 5) o)

abbrev pub five_marked : Result Time Refusal
five_marked = Ok (time_marked (pos 5) (pos 0) true)

abbrev pub marked : List Row
marked =
    reads (header_of (bytes "12abc")) (Ok (time_at (pos 12) (pos 0)))
    ∷ reads (header_of (bytes "-12abc")) (Err Form)
    ∷ reads (header_of (bytes "5 +01:00")) (Err Form)
    ∷ reads (header_of (bytes "5 +00-5")) (five (negsuc 299))
    ∷ reads (header_of (bytes "5 +0100 x")) (five (pos 0))
    -- offset -30 is written `-0000`, which is read as 0 with the mark
    ∷ writes (header_bytes (time_at (pos 5) (negsuc 29))) (bytes "5 -0000")
    ∷ reads (header_of (bytes "5 -0000")) five_marked
    ∷ reads (raw_of rule1 (bytes "5 +1445")) (five (pos 53100))
    ∷ reads (raw_of rule1 (bytes "5 ++5+0")) (five (pos 18000))
    ∷ []
