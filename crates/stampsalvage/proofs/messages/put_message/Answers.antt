-- `stampsalvage::messages::put_message` meets its contract: a name has at most 4,096 bytes, and the words behind it at most 82.
use mathlib.Core.Path.{◌≡◌, ap, ◌∙◌}
use mathlib.Core.List.{List, ◌++◌}
use Prim.Native.Nat.{ℕ, ◌+◌}
use native.Mathlib.Omega.{arith}
use lib.ListN.{length}
use Rattle.text.specs.Lines.{field, rest}
use Rattle.text.specs.Room.{put_at}
use Rattle.stampsalvage.specs.Messages.{place_words, size_words}
use Rattle.stampsalvage.proofs.Putting.{length-name-le, length-words-le, length-message_of, message_put}
use Rattle.stampsalvage.proofs.messages.put_message.Goals as goal

-- how long the words behind the name are
length-words : (row number size : List ℕ) → number ≡ field row → size ≡ rest row → length (place_words number ++ size_words size) ≡ length (place_words (field row) ++ size_words (rest row))
length-words row number size m n = λ j. length (place_words (m j) ++ size_words (n j))

pub put_part-next-requires : goal.put_part-next-requires
put_part-next-requires c = omega (arith, c.requires, ap length c.up_to.ensures, length-name-le c.args.name.now)

pub put_words-requires : goal.put_words-requires
put_words-requires c =
    let row = c.args.row.now in
    let words = length-words row c.number_of.result.now c.size_of.result.now c.number_of.ensures c.size_of.ensures in
    omega (arith, c.requires.at_in_bounds, c.put_part-next.ensures.value, ap length c.up_to.ensures, length-name-le c.args.name.now, words, length-words-le row c.requires.row_len_bound)

pub returns : goal.returns
returns c =
    let name = c.args.name.now in
    let row = c.args.row.now in
    let cut = c.up_to.ensures in
    let words = length-words row c.number_of.result.now c.size_of.result.now c.number_of.ensures c.size_of.ensures in
    let put-words = c.put_words.ensures in
    let place = c.put_part-next.ensures.value ∙ ap (λ (s : List ℕ). c.args.at + length s) cut in
    let put = c.put_part-next.ensures.room_after ∙ ap (λ (s : List ℕ). put_at s c.args.at c.args.room.now) cut in record {
      upper_bound = omega (arith, put-words.value, place, length-name-le name, words, length-words-le row c.requires.row_len_bound);
      value = omega (arith, put-words.value, place, words, length-message_of name row);
      room_after = message_put name row _ _ c.args.room.now _ _ c.args.at _ (omega (arith, c.requires)) c.number_of.ensures c.size_of.ensures place put put-words.room_after;
    }
