-- `stampsalvage::messages::put_place` meets its contract: a colon, the number, and a colon with a blank.
use native.Mathlib.Omega.{arith}
use Rattle.text.specs.Quote.{bytes}
use Rattle.stampsalvage.proofs.Putting.{length-place_words, three_put}
use Rattle.stampsalvage.proofs.messages.put_place.Goals as goal

pub put_part-next-requires : goal.put_part-next-requires
put_part-next-requires c =
    omega (arith, c.requires, length-place_words c.args.number.now)

pub put_part-next-requires-2 : goal.put_part-next-requires-2
put_part-next-requires-2 c =
    omega (arith, c.requires, c.put_part-next.ensures.value, length-place_words c.args.number.now)

pub put_part-requires : goal.put_part-requires
put_part-requires c =
    omega (arith, c.requires, c.put_part-next-2.ensures.value, c.put_part-next.ensures.value, length-place_words c.args.number.now)

pub returns : goal.returns
returns c =
    let number = c.args.number.now in
    let colon-put = c.put_part-next.ensures in
    let number-put = c.put_part-next-2.ensures in
    let blank-put = c.put_part.ensures in record {
      value = omega (arith, colon-put.value, number-put.value, blank-put.value, length-place_words number);
      room_after = three_put (bytes ":") number (bytes ": ") c.args.room.now _ _ _ c.args.at _ _ (omega (arith, c.requires)) colon-put.value colon-put.room_after number-put.value number-put.room_after blank-put.room_after;
    }
