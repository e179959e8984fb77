-- `iso::offset::parse_flexible_offset` meets its contract, by the first byte.
use Rattle.std.specs.Prelude.{Some}
use mathlib.Core.Path.{◌≡◌, sym, ap, ◌∙◌}
use mir.Syntax.{w64}
use native.Mathlib.Omega.{arith}
use borrow.Author.Tests.{eqb-true, eqb-false}
use lib.ListN.{length, length-drop}
use Rattle.text.proofs.Lists.{take-length-sub-drop}
use Rattle.ints.proofs.Machine as machine
use Rattle.iso.specs.Offset.{negated}
use Rattle.iso.proofs.Offsets.{In_of_Within, negated-not, negated_value, iso_offset-nil, iso_offset-east, iso_offset-west, iso_offset-zed, iso_offset-zed-not, iso_offset-not}
use Rattle.iso.proofs.offset.parse_flexible_offset.Goals as goal

-- no offset
pub returns-in_default-clause-is : goal.returns-in_default-clause-is
returns-in_default-clause-is c = iso_offset-nil _ (omega arith)

-- `+`
pub returns-in-43-clause-is : goal.returns-in-43-clause-is
returns-in-43-clause-is c =
    c.hours_minutes.ensures.is ∙ iso_offset-east _ c.in-43.is

-- `-` and no hours and minutes
pub returns-in_err-hours_minutes-in-45-clause-is : goal.returns-in_err-hours_minutes-in-45-clause-is
returns-in_err-hours_minutes-in-45-clause-is c =
    c.from_residual.ensures ∙ negated-not c.in_err-hours_minutes-in-45.was ∙ ap negated c.hours_minutes-in-45.ensures.is ∙ iso_offset-west _ c.in-45.is

-- `-`
pub returns-in_ok-hours_minutes-in-45 : goal.returns-in_ok-hours_minutes-in-45
returns-in_ok-hours_minutes-in-45 c =
    let z = machine.read w64 tt (machine.negated (machine.known w64 tt (In_of_Within {k = 362340} c.in_ok-hours_minutes-in-45.was c.hours_minutes-in-45.ensures.range))) in record {
      is = ap Some z.is ∙ negated_value c.in_ok-hours_minutes-in-45.was ∙ ap negated c.hours_minutes-in-45.ensures.is ∙ iso_offset-west _ c.in-45.is;
      range = machine.In_of_At z;
    }

-- `Z` alone
pub returns-then-is_empty-clause-is : goal.returns-then-is_empty-clause-is
returns-then-is_empty-clause-is c =
    let h = rw take-length-sub-drop at (eqb-true _ _ (sym c.if-is_empty.ensures)) in
    let l : length c.args.o.now ≡ 1 = omega (arith, h, length-drop 1 c.args.o.now) in
    iso_offset-zed _ c.in-90.is l

-- `Z` and more
pub returns-else-is_empty-clause-is : goal.returns-else-is_empty-clause-is
returns-else-is_empty-clause-is c =
    let h = rw take-length-sub-drop at (eqb-false _ _ (sym c.if-is_empty.ensures)) in
    iso_offset-zed-not _ c.in-90.is (λ l. h (omega (arith, l, length-drop 1 c.args.o.now)))

-- any other byte
pub returns-in_default-sign-clause-is : goal.returns-in_default-sign-clause-is
returns-in_default-sign-clause-is c =
    iso_offset-not _ (λ e. omega (arith, e)) (λ e. omega (arith, e)) (λ e. omega (arith, e)) (λ e. omega (arith, e))
