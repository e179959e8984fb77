-- `merge::fronts::front_of` meets its contract.
use mathlib.Core.Path.{sym, ap, ◌∙◌}
use mir.Syntax.{w64}
use mir.Val.{SFits}
use mir.ValLaws.{to_z-of_z}
use borrow.Author.Rules.{rules}
use borrow.Author.Tests.{eqb-true, eqb-false}
use Rattle.relative.specs.Relative.{max_pairs}
use Rattle.merge.specs.declared.fronts.Front.TheVariants.{At}
use Rattle.merge.proofs.FrontLines.{front_empty, front_at, front_longer, front_bad}
use Rattle.merge.proofs.fronts.front_of.Goals as goal

pub returns-then-is_empty : goal.returns-then-is_empty
returns-then-is_empty c = front_empty max_pairs _ (eqb-true _ _ (sym c.if-is_empty.ensures))

-- no `hull` line with its newline is at the front
pub returns-in_default-2 : goal.returns-in_default-2
returns-in_default-2 c = front_bad max_pairs _ (eqb-false _ _ (sym c.if-is_empty.ensures)) (sym c.in_default.ensures)

-- one is, and it is all of the text
pub returns-in-Some : goal.returns-in-Some
returns-in-Some c =
    let fits : SFits w64 c.in-Some.next.seconds = search rules in
    ap At (to_z-of_z w64 _ fits) ∙ front_at max_pairs _ (eqb-false _ _ (sym c.if-is_empty.ensures)) _ _ (sym c.in-Some.ensures) c.if-next-s.true

-- the text goes on
pub returns-in_default : goal.returns-in_default
returns-in_default c = front_longer max_pairs _ (eqb-false _ _ (sym c.if-is_empty.ensures)) _ _ (sym c.in-Some.ensures) c.if-next-s.false
