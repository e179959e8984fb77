-- `relative::steps::answer` meets its contract: a landing is in range, so that its time is the answer.
use mathlib.Core.Path.{◌∙◌}
use Rattle.time.proofs.Ranges.{answer_at_of_InRange}
use Rattle.relative.proofs.steps.answer.Goals as goal

pub returns : goal.returns
returns c =
    let is = c.in_ok-ok_or.ensures.ok_part in
    rw is (c.time_of.ensures ∙ answer_at_of_InRange _ (rw is at c.requires))
