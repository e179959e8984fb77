-- RULES 11: the examples marked P, one table and one statement about it.
-- Assumes nothing.
use mathlib.Core.List.{◌++◌}
use Rattle.time.specs.Rows.{AllRight}
use Rattle.time.proofs.Rows.{AllRight-append}
use Rattle.header.specs.Examples.{marked as headers}
use Rattle.header.proofs.Examples.{marked_examples as headers_right}
use Rattle.iso.specs.Examples.{marked as isos}
use Rattle.iso.proofs.Examples.{marked_examples as isos-right}
use Rattle.relative.specs.Examples.{marked as relatives}
use Rattle.relative.proofs.Examples.{marked_examples as relatives-right}
use Rattle.dates.specs.Examples.{marked}

pub marked_examples : AllRight marked
marked_examples = AllRight-append headers (isos ++ relatives) headers_right (AllRight-append isos relatives isos-right relatives-right)
