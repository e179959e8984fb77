-- `time::Time::write_iso_with` meets its contract: it writes the line of the time that is shown.
use Rattle.std.specs.Prelude.{Err, Result}
use Rattle.std.proofs.lemmas.Result.{err_from_is_err_and}
use mathlib.Core.Path.{◌≡◌, sym, ap, ◌∙◌}
use native.Mathlib.Omega.{arith}
use lib.IntN.{ℤ, nat_abs}
use mir.Syntax.{w32, w64}
use mir.Val.{SFits, to_z, of_z}
use mir.ValLaws.{to_z-of_z}
use Rattle.time.specs.Answers.{time_at}
use Rattle.time.specs.Header.{cut_to_minutes}
use Rattle.time.specs.Iso.{line_instant, shown, iso_bytes, iso_written}
use Rattle.time.specs.declared.Time.{Time}
use Rattle.time.proofs.Isos.{HasLine_of_At, wrote_line-not, wrote_line-At}
use Rattle.time.specs.declared.range.Instant.{Instant}
use Rattle.time.specs.declared.Refusal.{Refusal}
use Rattle.time.proofs.Time.write_iso_with.Goals as goal

-- the cut offset, read back
cut-is : (o : ℤ) {z : ℤ} → SFits w32 o → SFits w32 z → z ≡ cut_to_minutes (to_z w32 (of_z w32 o)) → to_z w32 (of_z w32 z) ≡ cut_to_minutes o
cut-is o {z} f g e = to_z-of_z w32 z g ∙ e ∙ ap cut_to_minutes (to_z-of_z w32 o f)

-- the line of the time that is shown
line_is : (t u : Time) {o : ℤ} {r : Result Instant Refusal} → SFits w64 t.seconds → u ≡ time_at (to_z w64 (of_z w64 t.seconds)) o
    → o ≡ cut_to_minutes t.offset → r ≡ line_instant u → r ≡ line_instant (shown t)
unfolding shown
line_is t u f e p q = q ∙ ap line_instant (e ∙ (λ j. time_at (to_z-of_z w64 t.seconds f j) (p j)))

pub write_instant-requires-clause-offset : goal.write_instant-requires-clause-offset
unfolding shown
write_instant-requires-clause-offset c =
    let t = c.args.self in
    let o = cut-is t.offset (record { sfits = omega arith }) (record { sfits = omega arith }) c.cut_to_minutes-shown.ensures in
    let e = sym (line_is t c.new.result (record { sfits = omega arith }) c.new.ensures o c.in_ok-i.ensures.is) in
    omega (arith, ap nat_abs o, (HasLine_of_At (shown t) _ e).narrow)

pub returns : goal.returns
unfolding shown iso_bytes iso_written
returns c =
    let t = c.args.self in
    let o = cut-is t.offset (record { sfits = omega arith }) (record { sfits = omega arith }) c.cut_to_minutes-shown.ensures in
    let line = c.in_ok-i.ensures in
    let e = sym (line_is t c.new.result (record { sfits = omega arith }) c.new.ensures o line.is) in
    let w = c.write_instant.ensures in
    let all = wrote_line-At (shown t) _ _ c.args.room.now _ _ e o (w.value, w.room_after) in
    record { value = all.0; room_after = all.1 }

pub returns-in_err-i : goal.returns-in_err-i
unfolding iso_bytes iso_written
returns-in_err-i c =
    let t = c.args.self in
    let o = cut-is t.offset (record { sfits = omega arith }) (record { sfits = omega arith }) c.cut_to_minutes-shown.ensures in
    let line = c.in_err-i.ensures in
    let e = sym (line_is t c.new.result (record { sfits = omega arith }) c.new.ensures o line.is) in
    let all = wrote_line-not (shown t) _ c.args.room.now e in
    let p = err_from_is_err_and c.from_residual.result c.from_residual.ensures.1 in
    record { value = p.1 ∙ ap Err p.2 ∙ all.0; room_after = all.1 }
