-- `iso::forms::parse_flexible_iso8601` meets its contract.
use mathlib.Core.Path.{sym, ◌∙◌}
use Prim.Native.Nat.{◌≤◌}
use native.Mathlib.Omega.{arith}
use lib.ListN.{length}
use lib.Seq.{length-take-le}
use Rattle.iso.proofs.FormFields.{flexible_short, flexible_four, flexible_seven, flexible_ten, flexible_yes}
use Rattle.iso.proofs.forms.parse_flexible_iso8601.Goals as goal
use Rattle.iso.proofs.forms.parse_flexible_iso8601.Goals.{then-s-lt11-via-then-s-lt11, then-s-lt11-via-else-s-lt11+then-s-ne45, then-s-lt11-via-else-s-lt11+else-s-ne45+then-s-ne45-2, then-s-lt11-via-else-s-lt11+else-s-ne45+else-s-ne45-2+then-not-is_separator}

-- too short, no dash at place 4 or 7, neither `T` nor space at place 10
pub returns-then-s-lt11-clause-is : goal.returns-then-s-lt11-clause-is
returns-then-s-lt11-clause-is c =
    elim c.then-s-lt11.branch [
      | then-s-lt11-via-then-s-lt11 w ↦ flexible_short _ w.if-s-lt11.true
      | then-s-lt11-via-else-s-lt11+then-s-ne45 w ↦ flexible_four _ w.if-s-ne45.true
      | then-s-lt11-via-else-s-lt11+else-s-ne45+then-s-ne45-2 w ↦ flexible_seven _ w.if-s-ne45.false w.if-s-ne45-2.true
      | then-s-lt11-via-else-s-lt11+else-s-ne45+else-s-ne45-2+then-not-is_separator w ↦ flexible_ten _ w.if-s-ne45.false w.if-s-ne45-2.false (sym w.is_separator.ensures ∙ w.if-not-is_separator.true)
    ]

pub slice_bounds-read_fields-end : goal.slice_bounds-read_fields-end
slice_bounds-read_fields-end c = let s = c.args.s.now in let h : 4 ≤ length s = omega arith in sym (length-take-le 4 s h)

-- `T` or space at place 10
pub returns-clause-is : goal.returns-clause-is
returns-clause-is c =
    c.read_fields.ensures.is ∙ flexible_yes _ c.if-s-ne45.false c.if-s-ne45-2.false _ _ (sym c.is_separator.ensures ∙ c.if-not-is_separator.false) c.two.ensures c.two-2.ensures
