-- `lines::answer_with` meets its contract.
use mathlib.Core.Path.{◌∙◌, ap}
use Rattle.text.specs.Room.{fits, room_after}
use Rattle.lines.specs.Rows.{row_bytes, written_in}
use Rattle.lines.specs.Answers.{answer_line}
use Rattle.lines.specs.declared.print.Row.{Row}
use Rattle.lines.proofs.answer_with.Goals as goal

pub returns : goal.returns
unfolding answer_line
returns c = let room = c.args.out.now in record {
  value = c.write_row.ensures.value ∙ ap (λ (x : Row). written_in (row_bytes x) room) c.row_of.ensures;
  out_after = c.write_row.ensures.out_after ∙ ap (λ (x : Row). room_after (fits (row_bytes x) room) (row_bytes x) room) c.row_of.ensures;
  upper_bound = c.write_row.ensures.upper_bound;
}
