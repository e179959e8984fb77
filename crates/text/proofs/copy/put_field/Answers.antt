-- `text::copy::put_field` meets its contract: the part is put right behind the tab.
use native.Mathlib.Omega.{arith}
use mathlib.Core.List.{[], ◌∷◌}
use Rattle.text.specs.Lines.{tab}
use Rattle.text.proofs.Behind.{put_at-behind}
use Rattle.text.proofs.copy.put_field.Goals as goal

pub returns : goal.returns
returns c = record {
  value = omega (arith, c.put_part.ensures.value, c.put_part-next.ensures.value);
  room_after = put_at-behind (tab ∷ []) c.args.part.now c.args.room.now _ _ c.args.at _ (omega arith) c.put_part-next.ensures.value c.put_part-next.ensures.room_after c.put_part.ensures.room_after;
}
