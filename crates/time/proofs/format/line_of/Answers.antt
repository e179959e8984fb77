-- `time::format::line_of` meets its contract: an offset under a day is in range, so that the move to numbers from 0 depends on the
-- seconds alone.
use Rattle.std.specs.Prelude.{Option}
use Rattle.std.specs.Option.{ok_or}
use mathlib.Core.Path.{◌≡◌, sym, ap, ◌∙◌}
use mathlib.Core.Bool.{Bool, ◌||◌}
use native.Mathlib.Omega.{arith}
use borrow.Author.Tests.{leb-true, leb-false}
use lib.Dec.{leb}
use lib.IntN.{ℤ, pos, negsuc, nat_abs}
use lib.Signed.{le_z}
use mir.Syntax.{w32}
use mir.Val.{SFits, to_z, of_z}
use mir.ValLaws.{to_z-of_z}
use Rattle.time.proofs.Isos.{wide_of_tests, line_instant_of_wide, line_instant_of_narrow}
use Rattle.time.specs.declared.Refusal.TheVariants.{Range}
use Rattle.time.specs.declared.range.Instant.{Instant}
use Rattle.time.proofs.format.line_of.Goals as goal

-- the two tests of the offset, as the machine made them
wide_is : (o : ℤ) {t : Bool} → SFits w32 o
    → (le_z (to_z w32 (of_z w32 o)) (negsuc 86399) || le_z (pos 86400) (to_z w32 (of_z w32 o))) ≡ t → leb 86400 (nat_abs o) ≡ t
wide_is o f e =
    sym (wide_of_tests o) ∙ sym (ap (λ (z : ℤ). le_z z (negsuc 86399) || le_z (pos 86400) z) (to_z-of_z w32 o f)) ∙ e

pub returns-then-t-clause-is : goal.returns-then-t-clause-is
returns-then-t-clause-is c = line_instant_of_wide _ (leb-true 86400 _ (wide_is c.args.t.offset (record { sfits = omega arith }) c.if-t.true))

pub returns-clause-is : goal.returns-clause-is
returns-clause-is c =
    let t = c.args.t in
    let narrow = leb-false 86400 _ (wide_is t.offset (record { sfits = omega arith }) c.if-t.false) in
    c.ok_or.ensures.value ∙ ap (λ (m : Option Instant). ok_or m Range) c.instant_of.ensures.value ∙ line_instant_of_narrow t narrow
