-- RULES 11: the examples marked P, as one table: headers and raw dates, ISO dates, relative dates.
-- Assumes nothing.
use Rattle.std.specs.Prelude.{List, ◌++◌}
use Rattle.time.specs.Rows.{Row}
use Rattle.header.specs.Examples.{marked as headers}
use Rattle.iso.specs.Examples.{marked as isos}
use Rattle.relative.specs.Examples.{marked as relatives}

abbrev pub marked : List Row
marked = headers ++ isos ++ relatives
