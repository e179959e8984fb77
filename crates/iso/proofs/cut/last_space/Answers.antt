-- `iso::cut::last_space` meets its contract. The invariant: no space stands from e on.
use mathlib.Core.Path.{◌≡◌, sym}
use native.Mathlib.Omega.{arith}
use borrow.Author.Tests.{eq-eqb, ne_eqb}
use Rattle.text.specs.Places.{last_place, opens_with}
use Rattle.text.proofs.Runs.{last-here, none_before}
use Rattle.iso.proofs.cut.last_space.Goals as goal

pub loop-e-init : goal.loop-e-init
unfolding last_place
loop-e-init c = c.block_end-e.ensures

pub returns-then-s-e-eq32 : goal.returns-then-s-e-eq32
unfolding last_place
returns-then-s-e-eq32 c = last-here (opens_with 32) _ _ c.loop-e-test.true c.loop-e.invariant (eq-eqb _ _ c.if-s-e-eq32.true)

pub loop-e-preserved : goal.loop-e-preserved
loop-e-preserved c = none_before (opens_with 32) _ _ c.loop-e-test.true c.loop-e.invariant (ne_eqb _ _ c.if-s-e-eq32.false)

-- the front
pub returns : goal.returns
unfolding last_place
returns c = let e : c.loop-e.e ≡ 0 = omega arith in sym (rw e at c.loop-e.invariant.1)
