-- The ISO dates among the worked examples marked P (RULES 11.5).
-- Assumes nothing.
use Rattle.std.specs.Prelude.{List, [], ◌∷◌, pos, neg_ℤ, Ok}
use Rattle.text.specs.Quote.{bytes}
use Rattle.time.specs.Answers.{time_at}
use Rattle.time.specs.Rows.{Row, reads}
use Rattle.iso.specs.Iso.{iso_of}

abbrev pub marked : List Row
marked =
    reads (iso_of (bytes "20080214T203045.019-04:00")) (Ok (time_at (pos 1203035445) (neg_ℤ (pos 14400)))) ∷
    reads (iso_of (bytes "2008.02.14 20:30:45 -0500")) (Ok (time_at (pos 1203039045) (neg_ℤ (pos 18000)))) ∷
    reads (iso_of (bytes "2008-02-14 20:30:45 +-5")) (Ok (time_at (pos 1203039045) (neg_ℤ (pos 18000)))) ∷ []
