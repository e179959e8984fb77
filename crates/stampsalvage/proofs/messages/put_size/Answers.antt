-- `stampsalvage::messages::put_size` meets its contract: the length, then the words for one byte or for several.
use mathlib.Core.Path.{ap}
use native.Mathlib.Omega.{arith}
use lib.ListN.{length, length-append}
use Rattle.text.specs.Quote.{bytes}
use Rattle.stampsalvage.specs.Messages.{dropped_words}
use Rattle.stampsalvage.proofs.Putting.{size_words-one, size_words-more, size_put}
use Rattle.stampsalvage.proofs.messages.put_size.Goals as goal

pub put_part-next-requires : goal.put_part-next-requires
put_part-next-requires c =
    let size = c.args.size.now in
    omega (arith, c.requires, length-append size (dropped_words size))

pub put_part-requires : goal.put_part-requires
put_part-requires c =
    let size = c.args.size.now in
    let words = size_words-one size _ c.same.ensures c.if-same.true in
    omega (arith, c.requires, c.put_part-next.ensures.value, ap length words, length-append size (bytes " byte dropped\n"))

pub put_part-requires-else-same : goal.put_part-requires-else-same
put_part-requires-else-same c =
    let size = c.args.size.now in
    let words = size_words-more size _ c.same.ensures c.if-same.false in
    omega (arith, c.requires, c.put_part-next.ensures.value, ap length words, length-append size (bytes " bytes dropped\n"))

pub returns-then-same : goal.returns-then-same
returns-then-same c =
    let size = c.args.size.now in
    let put = c.put_part-next.ensures in
    let words-put = c.put_part.ensures in
    let all = size_put size (bytes " byte dropped\n") c.args.room.now _ _ c.args.at _ _ (omega (arith, c.requires)) (size_words-one size _ c.same.ensures c.if-same.true) put.value put.room_after words-put.value words-put.room_after in record { value = all.0; room_after = all.1 }

pub returns-else-same : goal.returns-else-same
returns-else-same c =
    let size = c.args.size.now in
    let put = c.put_part-next.ensures in
    let words-put = c.put_part-else-same.ensures in
    let all = size_put size (bytes " bytes dropped\n") c.args.room.now _ _ c.args.at _ _ (omega (arith, c.requires)) (size_words-more size _ c.same.ensures c.if-same.false) put.value put.room_after words-put.value words-put.room_after in record { value = all.0; room_after = all.1 }
