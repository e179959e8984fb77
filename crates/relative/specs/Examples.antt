-- RULES 11.7, 11.8: the examples of relative dates that are marked P, which are proved together with the marked ones of the other
-- forms.
-- Assumes nothing.
use Prim.Native.String.{String}
use Rattle.std.specs.Prelude.{List, [], ◌∷◌, ℤ, pos, Err, Ok, Result, Some}
use Rattle.text.specs.Quote.{bytes}
use Rattle.time.specs.Answers.{time_at}
use Rattle.time.specs.Rows.{Row, reads}
use Rattle.time.specs.declared.Refusal.TheVariants.{Form}
use Rattle.relative.specs.Relative.{max_pairs, relative_of}
use Rattle.time.specs.declared.Refusal.{Refusal}
use Rattle.time.specs.declared.Time.{Time}

-- the answer of a text read from the time z at offset 0; and such a time as an answer
abbrev pub read : ℤ → String → Result Time Refusal
read z t = relative_of max_pairs (bytes t) (Some (time_at z (pos 0)))

abbrev pub at : ℤ → Result Time Refusal
at z = Ok (time_at z (pos 0))

-- noon of 31 May 2021, and midnight of 29 February 2020
abbrev pub may : ℤ
may = pos 1622462400

abbrev february : ℤ
february = pos 1582934400

abbrev pub marked : List Row
marked =
    reads (read may "1 month ago") (at (pos 1619870400)) ∷
    reads (read may "2 months") (at (pos 1617192000)) ∷
    reads (read may "1 month 1 month") (at (pos 1617278400)) ∷
    reads (read february "1 year") (at (pos 1551398400)) ∷
    reads (read may "2 ago") (Err Form) ∷
    reads (read may "2 ago ago") (at (pos 1622462398)) ∷
    reads (read may "5 6 days") (Err Form) ∷
    reads (read may "5 6 days ago") (at (pos 1622462395)) ∷ []
