-- `stamps::write::put_time_field` meets its contract: the header is put right behind the tab.
use native.Mathlib.Omega.{arith}
use mathlib.Core.List.{[], ◌∷◌}
use Rattle.text.specs.Lines.{tab}
use Rattle.time.specs.Header.{header_bytes}
use Rattle.text.proofs.Behind.{put_at-behind}
use Rattle.stamps.proofs.write.put_time_field.Goals as goal

pub returns-clause-room_after : goal.returns-clause-room_after
returns-clause-room_after c =
    put_at-behind (tab ∷ []) (header_bytes c.args.time) c.args.room.now _ _ c.args.at _ (omega arith) c.put_part-next.ensures.value c.put_part-next.ensures.room_after c.put_time.ensures.room_after
