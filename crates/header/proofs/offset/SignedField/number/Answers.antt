-- `header::offset::Signed::number` meets its contract: the number of two bytes fits 32 bits.
use mathlib.Core.Path.{◌∙◌}
use native.Mathlib.Omega.{arith}
use Rattle.std.proofs.lemmas.List.{take_all}
use Rattle.text.proofs.Numbers.{fit_signed-take}
use Rattle.header.proofs.offset.SignedField.number.Goals as goal

pub returns : goal.returns
returns c =
    let w = c.args.w.now in
    c.signed_number.ensures ∙ (rw (take_all 2 w c.requires) at (fit_signed-take 2147483648 w (omega arith)))
