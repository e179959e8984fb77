-- `stamps::write::put_number_field` meets its contract: the number is put right behind the tab.
use mathlib.Core.Path.{ap, ◌∙◌}
use mathlib.Core.List.{[], ◌∷◌}
use native.Mathlib.Omega.{arith}
use lib.IntN.{ℤ}
use mir.Syntax.{w64}
use mir.Facts.{to_z-of_z}
use Rattle.text.specs.Decimal.{signed}
use Rattle.text.specs.Lines.{tab}
use Rattle.text.specs.Room.{put_at}
use Rattle.text.proofs.Behind.{put_at-behind}
use Rattle.stamps.proofs.write.put_number_field.Goals as goal

pub returns-clause-room_after : goal.returns-clause-room_after
returns-clause-room_after c =
    let z-is = to_z-of_z {w = w64} {z = c.args.z} c.ranges.z in
    put_at-behind (tab ∷ []) _ c.args.room.now _ _ c.args.at _ (omega arith) c.put_part-next.ensures.value c.put_part-next.ensures.room_after c.put_number.ensures.room_after
    ∙ ap (λ (z : ℤ). put_at (tab ∷ signed z) c.args.at c.args.room.now) z-is
