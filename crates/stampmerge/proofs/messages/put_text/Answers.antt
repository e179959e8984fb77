-- `stampmerge::messages::put_text` meets its contract.
use native.Mathlib.Omega.{arith}
use Rattle.text.proofs.Behind.{drop-put_at}
use Rattle.stampmerge.proofs.messages.put_text.Goals as goal

pub returns : goal.returns
returns c = record {
  text_value = omega arith;
  room_after = drop-put_at c.args.text.now c.args.room.now _ c.args.end c.put_part.ensures.room_after c.requires.0 c.requires.1;
}
