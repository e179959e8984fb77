-- `iso::cut::block_end` meets its contract. The invariant: no space stands from e on. The measure is e.
use mathlib.Core.Path.{sym, ◌∙◌}
use native.Mathlib.Omega.{arith}
use Rattle.text.specs.Places.{last_place}
use Rattle.text.proofs.Runs.{none_before_block}
use Rattle.iso.proofs.cut.block_end.Goals as goal

pub loop-e-init : goal.loop-e-init
unfolding last_place
loop-e-init c = c.requires

pub returns-then-has : goal.returns-then-has
unfolding last_place
returns-then-has c = c.loop-e.invariant

pub loop-e-preserved : goal.loop-e-preserved
loop-e-preserved c =
    none_before_block 32 _ _ 32 c.loop-e-test.true c.loop-e.invariant (sym c.has.ensures ∙ c.if-has.false)

pub returns : goal.returns
unfolding last_place
returns c = c.loop-e.invariant

pub loop-e-smaller : goal.loop-e-smaller
loop-e-smaller c = omega arith
