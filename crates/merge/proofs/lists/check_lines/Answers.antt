-- `merge::lists::check_lines` meets its contract. The invariant: n lines, which end at `at`, are passed, and the list is at fault as what is left
-- is. The measure is how much is left.
use Rattle.std.specs.Prelude.{Option}
use mathlib.Core.Path.{◌≡◌, sym, ap, ◌∙◌}
use mathlib.Core.Bool.{Bool}
use mir.Syntax.{w64}
use mir.Val.{SFits, to_z, of_z}
use mir.ValLaws.{to_z-of_z}
use native.Mathlib.Omega.{arith}
use borrow.Author.Rules.{rules}
use lib.IntN.{ℤ}
use Rattle.relative.specs.Relative.{max_pairs}
use Rattle.stamps.specs.Listing.{is_at_or_after}
use Rattle.merge.proofs.ListLines.{checking_start, checking_end, checking_bad, checking-step-back, size-pos, size_within, checking_again}
use Rattle.merge.proofs.lists.check_lines.Goals as goal

-- the test of the next line's seconds, which are what the machine holds of them
seconds : (above : Option ℤ) (z : ℤ) {t r : Bool} → SFits w64 z → t ≡ is_at_or_after above (to_z w64 (of_z w64 z)) → t ≡ r → is_at_or_after above z ≡ r
seconds above z fits e tested = sym (e ∙ ap (is_at_or_after above) (to_z-of_z w64 z fits)) ∙ tested

-- it is no good `hull` line
pub returns-in_default : goal.returns-in_default
returns-in_default c = checking_bad c.loop-at.invariant _ c.from.ensures c.loop-at-test.true (sym c.in_default.ensures)

pub overflow_add-at : goal.overflow_add-at
overflow_add-at c = record { fits = omega (arith, size_within c.loop-at.invariant _ c.from.ensures _ _ (sym c.in-Some.ensures)) }

pub loop-at-smaller : goal.loop-at-smaller
loop-at-smaller c = omega (arith, size-pos c.loop-at.invariant _ c.from.ensures _ _ (sym c.in-Some.ensures), c.loop-at-test.true)

pub loop-at-preserved : goal.loop-at-preserved
loop-at-preserved c =
    let fits : SFits w64 c.in-Some.next.seconds = search rules in
    rw (to_z-of_z w64 _ fits)
    (checking_again c.loop-at.invariant _ c.from.ensures _ _ (sym c.in-Some.ensures) (seconds c.loop-at.above _ fits c.is_at_or_after.ensures c.if-not-is_at_or_after.false))

-- a step back
pub returns-then-not-is_at_or_after : goal.returns-then-not-is_at_or_after
returns-then-not-is_at_or_after c =
    let fits : SFits w64 c.in-Some.next.seconds = search rules in
    checking-step-back c.loop-at.invariant _ c.from.ensures _ _ (sym c.in-Some.ensures) (seconds c.loop-at.above _ fits c.is_at_or_after.ensures c.if-not-is_at_or_after.true)

pub loop-at-init : goal.loop-at-init
loop-at-init c = checking_start max_pairs _ _

pub returns : goal.returns
returns c = checking_end c.loop-at.invariant c.loop-at-test.false
