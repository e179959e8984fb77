-- `header::parse_words` meets its contract: the first word gives the seconds, and the only other word the offset.
use Rattle.std.specs.Prelude.{Err, Some}
use Rattle.std.proofs.lemmas.Result.{err_from_is_err_and}
use mathlib.Core.Path.{sym, ap, ◌∙◌}
use Rattle.header.specs.Header.{header_of}
use Rattle.header.specs.Held.{WordsRead}
use Rattle.header.proofs.Offsets.{header_offset-all_small}
use Rattle.header.proofs.Readers.{retold, header_of_of_colon, header_of_of_words}
use Rattle.header.proofs.parse_words.Goals as goal

-- a byte of 128 or more
pub returns-in_err-first : goal.returns-in_err-first
unfolding header_of
returns-in_err-first c =
    let p = err_from_is_err_and c.from_residual.result c.from_residual.ensures.1 in
    let none = c.in_err-first.ensures.ok_part in
    p.1 ∙ ap Err p.2 ∙ ap retold (rw none at c.in_err-first.ensures.value) ∙ rw (rw none at c.requires)

-- a `:`
pub returns-then-first : goal.returns-then-first
returns-then-first c = sym (header_of_of_colon _ _ (rw c.in_ok-first.ensures.ok_part at c.requires) c.if-first.true)

pub header_time-requires : goal.header_time-requires
header_time-requires c = rw c.parse_offset.ensures (header_offset-all_small _)

pub returns : goal.returns
returns c =
    let read : WordsRead c.args.s.now (Some c.in_ok-first.first) = rw c.in_ok-first.ensures.ok_part at c.requires in
    rw (header_of_of_words _ _ read c.if-first.false, ← c.within.ensures, ← c.parse_offset.ensures) c.header_time.ensures
