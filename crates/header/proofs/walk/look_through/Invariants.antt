use mathlib.Core.Path.{◌≡◌}
use mathlib.Core.Bool.{◌&&◌, ◌||◌}
use lib.ListN.{drop}
use Rattle.text.specs.Bytes.{ascii}
use Rattle.text.specs.Places.{has}
use Rattle.header.proofs.walk.look_through.Given as goal

abbrev pub invariant-loop-i : goal.invariant-loop-i
invariant-loop-i l = (ascii (drop l.from l.s) ≡ (l.ascii && ascii (drop l.i l.s))) × (has 58 (drop l.from l.s) ≡ (l.colon || has 58 (drop l.i l.s)))
