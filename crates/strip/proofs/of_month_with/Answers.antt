-- `strip::of_month_with` meets its contract: the month is found or not, as in the definition.
use mir.Syntax.{w64}
use mir.Facts.{to_z-of_z}
use Rattle.strip.specs.Strip.{strip_of}
use Rattle.strip.proofs.of_month_with.Goals as goal

-- the month is there
pub returns-in-Some : goal.returns-in-Some
unfolding strip_of
returns-in-Some c =
    let found = rw (to_z-of_z {w = w64} c.ranges.year, to_z-of_z {w = w64} c.ranges.month) at c.in-Some.ensures.is in
    rw (c.month_strip.ensures, ← found)

-- no such month
pub returns-in-None : goal.returns-in-None
unfolding strip_of
returns-in-None c =
    let found = rw (to_z-of_z {w = w64} c.ranges.year, to_z-of_z {w = w64} c.ranges.month) at c.in-None.ensures.is in
    rw (c.from.ensures, c.no_strip.ensures, ← found)
