-- `header::raw::parse_words` meets its contract: the first word has to be a number, and the fields of the only other word decide.
use Rattle.std.specs.Prelude.{Err, Some}
use Rattle.std.proofs.lemmas.Result.{err_from_is_err_and}
use mathlib.Core.Path.{ap, ◌∙◌}
use Rattle.header.specs.Held.{WordsRead}
use Rattle.header.specs.Raw.{raw_of}
use Rattle.header.specs.Offset.{Byte}
use Rattle.header.proofs.Offsets.{fields_of-all_small}
use Rattle.header.proofs.Readers.{retold, raw_of_of_words}
use Rattle.std.proofs.lemmas.Bool.{not-true, not-false}
use Rattle.header.proofs.raw.parse_words.Goals as goal

-- a byte of 128 or more
pub returns-in_err-first : goal.returns-in_err-first
unfolding raw_of
returns-in_err-first c =
    let p = err_from_is_err_and c.from_residual.result c.from_residual.ensures.1 in
    let none = c.in_err-first.ensures.ok_part in
    p.1 ∙ ap Err p.2 ∙ ap retold (rw none at c.in_err-first.ensures.value) ∙ rw (rw none at c.requires)

pub raw_time-requires : goal.raw_time-requires
raw_time-requires c = rw c.parse_fields.ensures (fields_of-all_small Byte _)

pub returns : goal.returns
returns c =
    let read : WordsRead c.args.s.now (Some c.in_ok-first.first) = rw c.in_ok-first.ensures.ok_part at c.requires in
    rw (raw_of_of_words _ _ read _, not-false _ c.if-not-first.false, ← c.within-word.ensures, ← c.parse_fields.ensures) c.raw_time.ensures

-- a first word that is no number
pub returns-then-not-first : goal.returns-then-not-first
returns-then-not-first c =
    let read : WordsRead c.args.s.now (Some c.in_ok-first.first) = rw c.in_ok-first.ensures.ok_part at c.requires in
    rw (raw_of_of_words _ _ read _, not-true _ c.if-not-first.true)
