-- `stamps::put::put_number` meets its contract: the number is written in front of its end.
use mathlib.Core.Path.{ap, ◌∙◌}
use Prim.Native.Nat.{ℕ, ◌+◌}
use lib.IntN.{ℤ}
use mir.Syntax.{w64}
use mir.Facts.{to_z-of_z}
use Rattle.text.specs.Decimal.{signed}
use Rattle.text.specs.Room.{put_at}
use Rattle.stamps.proofs.Putting.{put_at-signed}
use Rattle.stamps.proofs.put.put_number.Goals as goal

pub returns-clause-room_after : goal.returns-clause-room_after
returns-clause-room_after c =
    let z-is = to_z-of_z {w = w64} {z = c.args.z} c.ranges.z in
    let end_is = ap (λ (n : ℕ). c.args.at + n) c.signed_width.ensures.0 in
    put_at-signed _ c.args.room.now _ c.args.at _ end_is c.put_signed.ensures.room_after
    ∙ ap (λ (z : ℤ). put_at (signed z) c.args.at c.args.room.now) z-is
