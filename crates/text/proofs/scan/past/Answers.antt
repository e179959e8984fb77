-- `text::scan::past` meets its contract. The invariant: the place past the run from i on is the place past the run from `at` on.
use Rattle.std.proofs.Common.{sym, ◌∙◌}
use Rattle.text.proofs.Runs.{past_of-true, past_of-false, past_of-length-le}
use Rattle.text.proofs.scan.past.Goals as goal

pub loop-i-preserved : goal.loop-i-preserved
loop-i-preserved g c =
    c.loop-i.invariant ∙ past_of-true _ _ _ c.loop-i-test.true (sym c.has.ensures ∙ c.if-not-has.false)

pub returns-then-not-has : goal.returns-then-not-has
returns-then-not-has g c =
    sym (c.loop-i.invariant ∙ past_of-false _ _ _ c.loop-i-test.true (sym c.has.ensures ∙ c.if-not-has.true))

pub returns : goal.returns
returns g c = sym (c.loop-i.invariant ∙ past_of-length-le _ _ _ c.loop-i-test.false)
