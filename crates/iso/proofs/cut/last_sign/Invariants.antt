use mathlib.Core.Path.{◌≡◌}
use lib.ListN.{get_or, drop}
use Rattle.text.specs.Bytes.{is_digit}
use Rattle.text.proofs.Runs.{None}
use Rattle.iso.specs.Cut.{is_offset}
use Rattle.iso.proofs.cut.last_sign.Given as goal

abbrev pub invariant-loop-e : goal.invariant-loop-e
invariant-loop-e l = None is_offset l.s l.e × (is_digit (get_or (drop l.e l.s) 0 0) ≡ l.digit)
