-- `iso::forms::parse_iso8601_dots` meets its contract.
use mathlib.Core.Path.{sym}
use lib.Seq.{length-take-le}
use Rattle.iso.proofs.FormFields.{dotted_short, dotted_no, dotted_four, dotted_seven, is_dotted-yes}
use Rattle.iso.proofs.forms.parse_iso8601_dots.Goals as goal
use Rattle.iso.proofs.forms.parse_iso8601_dots.Goals.{then-s-lt11-via-then-s-lt11, then-s-lt11-via-else-s-lt11+then-first_place-ne10, then-s-lt11-via-else-s-lt11+else-first_place-ne10+then-s-ne46, then-s-lt11-via-else-s-lt11+else-first_place-ne10+else-s-ne46+then-s-ne46-2}

pub slice_bounds-first_place-end : goal.slice_bounds-first_place-end
slice_bounds-first_place-end c =
    sym (length-take-le 11 c.args.s.now c.if-s-lt11.false)

-- too short, the first space elsewhere, no dot at place 4 or 7
pub returns-then-s-lt11-clause-is : goal.returns-then-s-lt11-clause-is
returns-then-s-lt11-clause-is c =
    elim c.then-s-lt11.branch [
      | then-s-lt11-via-then-s-lt11 w ↦ dotted_short _ w.if-s-lt11.true
      | then-s-lt11-via-else-s-lt11+then-first_place-ne10 w ↦ dotted_no _ _ w.first_place.ensures.0 w.if-first_place-ne10.true
      | then-s-lt11-via-else-s-lt11+else-first_place-ne10+then-s-ne46 w ↦ dotted_four _ w.if-s-ne46.true
      | then-s-lt11-via-else-s-lt11+else-first_place-ne10+else-s-ne46+then-s-ne46-2 w ↦ dotted_seven _ w.if-s-ne46.false w.if-s-ne46-2.true
    ]

pub dashed-requires : goal.dashed-requires
dashed-requires c = record {
  bytes = c.if-s-lt11.false;
  form = is_dotted-yes _ _ c.if-s-lt11.false c.first_place.ensures.0 c.if-first_place-ne10.false c.if-s-ne46.false c.if-s-ne46-2.false;
}
