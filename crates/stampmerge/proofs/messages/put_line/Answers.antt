-- `stampmerge::messages::put_line` meets its contract: the words, then the number, then a colon.
use native.Mathlib.Omega.{arith}
use Rattle.stampmerge.proofs.Putting.{line_put}
use Rattle.stampmerge.proofs.messages.put_line.Goals as goal

pub returns : goal.returns
returns c =
    let colon = c.put_text.ensures in
    let number = c.put_number-at.ensures in
    let words = c.put_text-at.ensures in record {
      upper_bound = (omega (arith, colon.text_value, number.n_value, words.text_value), omega (arith, colon.text_value, number.n_value, words.text_value));
      room_after = line_put c.args.n c.args.what.now _ _ _ _ words.room_after number.room_after colon.room_after;
    }
