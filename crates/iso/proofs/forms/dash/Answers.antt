-- `iso::forms::dash` meets its contract.
use borrow.Author.Tests.{eq-eqb, ne_eqb}
use Rattle.iso.specs.Forms.{dash_of}
use Rattle.iso.proofs.forms.dash.Goals as goal

pub returns-then-b-eq46 : goal.returns-then-b-eq46
unfolding dash_of
returns-then-b-eq46 c = rw (eq-eqb _ _ c.if-b-eq46.true)

pub returns-else-b-eq46 : goal.returns-else-b-eq46
unfolding dash_of
returns-else-b-eq46 c = rw (ne_eqb _ _ c.if-b-eq46.false)
