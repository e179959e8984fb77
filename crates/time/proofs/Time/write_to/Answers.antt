-- `time::Time::write_to` meets its contract: its three answers, each with the room that it leaves.
use mathlib.Core.Path.{◌≡◌, ◌∙◌, ap}
use native.Mathlib.Omega.{arith}
use Prim.Native.Nat.{ℕ}
use lib.IntN.{ℤ, nat_abs}
use mir.Syntax.{w32, w64}
use mir.Val.{SFits, to_z, of_z}
use mir.ValLaws.{to_z-of_z}
use Rattle.time.proofs.Headers.{wrote_too_wide, wrote_too_short, wrote_whole}
use Rattle.time.proofs.Time.write_to.Goals as goal

-- the size of the offset, as it was measured
wide_is : (o : ℤ) {n : ℕ} → SFits w32 o → n ≡ nat_abs (to_z w32 (of_z w32 o)) → n ≡ nat_abs o
wide_is o f e = e ∙ ap nat_abs (to_z-of_z w32 o f)

pub returns-then-wide-ge-OFFSET_LIMIT : goal.returns-then-wide-ge-OFFSET_LIMIT
returns-then-wide-ge-OFFSET_LIMIT c =
    let t = c.args.self in
    let wide = wide_is t.offset (record { sfits = omega arith }) c.offset_size-wide.ensures in
    let all = wrote_too_wide t c.args.room.now (omega (arith, c.if-wide-ge-OFFSET_LIMIT.true)) in
    record { value = all.0; room_after = all.1 }

pub returns-then-room-n : goal.returns-then-room-n
returns-then-room-n c =
    let t = c.args.self in
    let wide = wide_is t.offset (record { sfits = omega arith }) c.offset_size-wide.ensures in
    let all = wrote_too_short t c.args.room.now (omega (arith, c.if-wide-ge-OFFSET_LIMIT.false)) (omega (arith, c.size-n.ensures.0, c.if-room-n.true)) in
    record { value = all.0; room_after = all.1 }

pub returns : goal.returns
returns c =
    let t = c.args.self in
    let wide = wide_is t.offset (record { sfits = omega arith }) c.offset_size-wide.ensures in
    let p = rw (to_z-of_z w64 t.seconds (record { sfits = omega arith })) at c.put_header.ensures in
    let all = wrote_whole t c.args.room.now (omega (arith, c.if-wide-ge-OFFSET_LIMIT.false)) _ c.size-n.result c.header_sign.result
    c.offset_size-wide.result c.size-n.ensures.0 c.if-room-n.false c.header_sign.ensures wide p in
    record { value = all.0; room_after = all.1 }
