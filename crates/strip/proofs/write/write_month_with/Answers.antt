-- `strip::write::write_month_with` meets its contract: at each return the tests that led there decide the answer, and nothing is written before
-- the last of them.
use Rattle.std.specs.Prelude.{Err}
use Rattle.std.proofs.lemmas.Result.{err_from_is_err_and}
use mathlib.Core.Path.{◌≡◌, sym, ap, ◌∙◌}
use mathlib.Core.List.{◌++◌}
use lib.ListN.{drop}
use mir.Syntax.{w64}
use mir.Facts.{to_z-of_z}
use Rattle.strip.specs.Strip.{month_in, strip_bytes}
use Rattle.strip.proofs.Writing.{written_nothing, written_short, written_at}
use Rattle.strip.proofs.write.write_month_with.Goals as goal
use Rattle.strip.proofs.write.write_month_with.Goals.{After-month_of}

found-is : (c : After-month_of) → month_in c.args.year c.args.month ≡ c.month_of.result
found-is c = sym (rw (to_z-of_z {w = w64} c.ranges.year, to_z-of_z {w = w64} c.ranges.month) at c.month_of.ensures.is)

-- no such month
pub returns-in_err-m : goal.returns-in_err-m
returns-in_err-m c =
    let p = err_from_is_err_and c.from_residual.result c.from_residual.ensures.1 in
    let none = c.in_err-m.ensures.ok_part in
    let all = written_nothing _ _ _ (found-is (goal.at.returns-in_err-m c).After-month_of ∙ none) in
    record { value = p.1 ∙ ap Err p.2 ∙ rw none at c.in_err-m.ensures.value ∙ all.0; room_after = all.1 }

-- the room is too short
pub returns-then-room-lt-STRIP_LENGTH : goal.returns-then-room-lt-STRIP_LENGTH
returns-then-room-lt-STRIP_LENGTH c =
    let found = found-is (goal.at.returns-then-room-lt-STRIP_LENGTH c).After-month_of ∙ c.in_ok-m.ensures.ok_part in
    let all = written_short _ _ _ found c.if-room-lt-STRIP_LENGTH.true in record { value = all.0; room_after = all.1 }

-- the strip is written
pub returns : goal.returns
returns c =
    let room = c.args.room.now in
    let found = found-is (goal.at.returns c).After-month_of ∙ c.in_ok-m.ensures.ok_part in
    let all = written_at _ _ room _ found c.if-room-lt-STRIP_LENGTH.false
    (c.put_strip.ensures ∙ ap (λ s. strip_bytes s ++ drop 50 room) c.month_strip.ensures) in record { value = all.0; room_after = all.1 }
