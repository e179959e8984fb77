-- `stampsalvage::messages::put_words` meets its contract: the length right behind the number.
use native.Mathlib.Omega.{arith}
use lib.ListN.{length-append}
use Rattle.text.proofs.Behind.{put_at-behind}
use Rattle.stampsalvage.specs.Messages.{place_words, size_words}
use Rattle.stampsalvage.proofs.messages.put_words.Goals as goal

pub put_place-next-requires : goal.put_place-next-requires
put_place-next-requires c =
    omega (arith, c.requires, length-append (place_words c.args.number.now) (size_words c.args.size.now))

pub put_size-requires : goal.put_size-requires
put_size-requires c =
    omega (arith, c.requires, c.put_place-next.ensures.value, length-append (place_words c.args.number.now) (size_words c.args.size.now))

pub returns : goal.returns
returns c =
    let place = place_words c.args.number.now in
    let size = size_words c.args.size.now in
    let place-put = c.put_place-next.ensures in
    let size-put = c.put_size.ensures in record {
      value = omega (arith, place-put.value, size-put.value, length-append place size);
      room_after = put_at-behind place size c.args.room.now _ _ c.args.at _ (omega (arith, c.requires)) place-put.value place-put.room_after size-put.room_after;
    }
