-- `iso::forms::parse_compact_iso8601` meets its contract.
use mathlib.Core.Path.{sym, ◌∙◌}
use Prim.Native.Nat.{◌≤◌}
use native.Mathlib.Omega.{arith}
use lib.ListN.{length}
use lib.Seq.{length-take-le}
use Rattle.iso.proofs.FormFields.{compact_short, compact_no, compact_yes}
use Rattle.iso.proofs.forms.parse_compact_iso8601.Goals as goal
use Rattle.iso.proofs.forms.parse_compact_iso8601.Goals.{then-s-lt9-via-then-s-lt9, then-s-lt9-via-else-s-lt9+then-first_place-ne8}

pub slice_bounds-first_place-end : goal.slice_bounds-first_place-end
slice_bounds-first_place-end c =
    sym (length-take-le 9 c.args.s.now c.if-s-lt9.false)

-- too short, or the first `T` elsewhere
pub returns-then-s-lt9-clause-is : goal.returns-then-s-lt9-clause-is
returns-then-s-lt9-clause-is c =
    elim c.then-s-lt9.branch [
      | then-s-lt9-via-then-s-lt9 w ↦ compact_short _ w.if-s-lt9.true
      | then-s-lt9-via-else-s-lt9+then-first_place-ne8 w ↦ compact_no _ _ w.first_place.ensures.0 w.if-first_place-ne8.true
    ]

pub slice_bounds-read_fields-end : goal.slice_bounds-read_fields-end
slice_bounds-read_fields-end c = let s = c.args.s.now in let h : 4 ≤ length s = omega arith in sym (length-take-le 4 s h)

-- the first `T` at place 8
pub returns : goal.returns
returns c = record {
  is = c.read_fields.ensures.is ∙ compact_yes _ _ _ _ c.first_place.ensures.0 c.if-first_place-ne8.false c.if-s-lt9.false c.two.ensures c.two-2.ensures;
  range = c.read_fields.ensures.range;
}
