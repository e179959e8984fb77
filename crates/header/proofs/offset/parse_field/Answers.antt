-- `header::offset::parse_field` meets its contract: two digits are a number of either kind, and any other two bytes are read by it.
use Rattle.std.specs.Prelude.{Some}
use mathlib.Core.Path.{sym, ap, ◌∙◌}
use mir.Syntax.{w64}
use Rattle.ints.proofs.Machine.{back}
use native.Mathlib.Nat.{add-sub_cancel_left}
use Rattle.text.proofs.Lists.{both}
use Rattle.header.proofs.Offsets.{field_of_is, field_of_of_digits}
use Rattle.header.proofs.offset.parse_field.Goals as goal

pub returns-then-both_digits : goal.returns-then-both_digits
returns-then-both_digits g c =
    let d = both _ _ (sym c.both_digits.ensures ∙ c.if-both_digits.true) in
    ap Some (back w64 c.two_digits.result c.two_digits.type_inv ∙ c.two_digits.ensures) ∙ sym (field_of_of_digits _ _ c.requires d.0 d.1 g.F.Field.kind)

pub returns-else-both_digits : goal.returns-else-both_digits
returns-else-both_digits g c = rw add-sub_cancel_left at c.number.ensures ∙ field_of_is g.F.Field.kind c.args.w.now c.args.at
