-- `lines::cut::answer_at` meets its contract: the part from `at` on is borrowed, and what comes before it stays.
use mathlib.Core.Path.{◌∙◌, ap}
use native.Mathlib.Omega.{arith}
use lib.ListN.{length}
use Rattle.text.proofs.Lists.{take-length-sub-drop}
use Rattle.text.proofs.Putting.{put_behind}
use Rattle.text.specs.Room.{fits, room_after}
use Rattle.lines.specs.Rows.{written_in}
use Rattle.lines.specs.Answers.{answer_line}
use Rattle.lines.proofs.cut.answer_at.Goals as goal

pub returns : goal.returns
returns c = let l = c.args.out.now in
    let at = c.args.at in
    let a = answer_line c.args.line.now in record {
      value = c.answer_with.ensures.value ∙ ap (written_in a) (take-length-sub-drop l at);
      out_after = put_behind l _ at (λ v. room_after (fits a v) a v) c.requires.at_in_bounds c.answer_with.ensures.out_after;
      result_nonzero = λ h. c.answer_with.ensures.upper_bound.1 (omega (arith, h, ap length (take-length-sub-drop l at)));
    }
