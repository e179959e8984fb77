-- `compact::table::mix` meets its contract. The invariant: mixing what is left from an index on into h gives what mixing the whole gives.
use mathlib.Core.Path.{sym, ap, ◌∙◌}
use native.Mathlib.Omega.{arith}
use lib.ListN.{drop_of_length-le}
use Rattle.text.proofs.Lists.{drop-cons-add-one}
use Rattle.compact.specs.Held.{mixed}
use Rattle.compact.proofs.table.mix.Goals as goal

pub loop-b-preserved : goal.loop-b-preserved
unfolding mixed
loop-b-preserved c =
    (omega arith, rw c.from.ensures (c.loop-b.invariant.1 ∙ ap (mixed c.loop-b.h) (drop-cons-add-one _ _ c.loop-b-test.true)))

pub returns : goal.returns
unfolding mixed
returns c = (sym (c.loop-b.invariant.1 ∙ ap (mixed c.loop-b.h) (drop_of_length-le _ c.loop-b-test.false)), c.loop-b.invariant.0)
