-- `stamps::write::is_hull` meets its contract.
use mathlib.Core.Path.{ap, ◌∙◌}
use mathlib.Core.Bool.{◌&&◌}
use lib.Dec.{ltb}
use lib.IntN.{ℤ, nat_abs}
use mir.Syntax.{w32}
use mir.Val.{SFits}
use mir.ValLaws.{to_z-of_z}
use borrow.Author.Rules.{rules}
use Rattle.stamps.specs.Stamps.{is_whole_minutes}
use Rattle.stamps.specs.Writing.{is_hull}
use Rattle.stamps.proofs.write.is_hull.Goals as goal

pub returns : goal.returns
unfolding is_hull
returns c =
    let time = c.args.time in
    let offset : SFits w32 time.offset = search rules in
    let whole_is = c.is_whole.ensures ∙ ap (λ (o : ℤ). is_whole_minutes o && ltb (nat_abs o) 360000) (to_z-of_z w32 time.offset offset) in
    λ i. c.is_path.ensures i && c.is_key.ensures i && whole_is i
