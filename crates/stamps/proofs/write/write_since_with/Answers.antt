-- `stamps::write::write_since_with` meets its contract.
use mathlib.Core.Path.{◌≡◌, sym, ◌∙◌}
use mathlib.Core.Bool.{true}
use Rattle.relative.specs.Relative.{max_pairs}
use Rattle.stamps.specs.Writing.{is_since, since_line, since_written}
use Rattle.stamps.proofs.Writing.{wrote_nothing}
use Rattle.stamps.proofs.write.write_since_with.Goals as goal

pub returns-then-is_since : goal.returns-then-is_since
unfolding since_written
returns-then-is_since c =
    let good : is_since max_pairs c.args.text.now c.args.current ≡ true = sym c.is_since.ensures ∙ c.if-is_since.true in
    record { value = rw good c.put_if_fits.ensures.value; room_after = rw good c.put_if_fits.ensures.room_after }

pub returns-else-is_since : goal.returns-else-is_since
unfolding since_written
returns-else-is_since c =
    let all = wrote_nothing (since_line c.args.text.now c.args.current) c.args.room.now (sym c.is_since.ensures ∙ c.if-is_since.false) in record { value = all.0; room_after = all.1 }
