-- How the code holds its values on the way to an answer: how many pairs there are, and a current time or a landing as numbers
-- from 0. Only private contracts cite these definitions: what `parse` ensures can be read without them.
-- Assumes nothing.
use Rattle.std.specs.Prelude.{ℕ, Bool, cond, eqb, Err, None, Ok, Option, Result, Some}
use Rattle.time.specs.Range.{time_in_range, time_of, instant_of, InRange}
use Rattle.time.specs.declared.Refusal.TheVariants.{Missing as NoCurrent, Current, Range}
use Rattle.time.specs.declared.range.Instant.{Instant}
use Rattle.time.specs.declared.Refusal.{Refusal}
use Rattle.time.specs.declared.Time.{Time}

-- the count of pairs of a text that has n, if there is one and the units are allowed: all are known, or the text has the mark
unfoldable pub counted_of : ℕ → Bool → Option ℕ
counted_of n allowed = cond (eqb n 0) None (cond allowed (Some n) None)

-- where the steps start, or why they cannot
unfoldable pub start_of : Option Time → Result Instant Refusal
start_of None = Err NoCurrent
start_of (Some x) = cond (time_in_range x) (Ok (instant_of x)) (Err Current)

abbrev pub StartInRange : Result Instant Refusal → Type 0
StartInRange (Ok i) = InRange i
StartInRange (Err r) = Unit {0}

-- a landing as an answer
abbrev pub answer_of : Option Instant → Result Time Refusal
answer_of (Some i) = Ok (time_of i)
answer_of None = Err Range
