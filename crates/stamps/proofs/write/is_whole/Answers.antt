-- `stamps::write::is_whole` meets its contract.
use mathlib.Core.Path.{ap, ◌∙◌}
use mathlib.Core.Bool.{◌&&◌}
use Prim.Native.Nat.{ℕ, ◌%◌}
use lib.Dec.{ltb, eqb}
use lib.IntN.{nat_abs}
use mir.Syntax.{w32}
use mir.Facts.{to_z-of_z}
use Rattle.stamps.specs.Stamps.{is_whole_minutes}
use Rattle.stamps.proofs.write.is_whole.Goals as goal

pub returns : goal.returns
unfolding is_whole_minutes
returns c =
    let size_is = c.unsigned_abs-size.ensures.value ∙ ap nat_abs (to_z-of_z {w = w32} {z = c.args.offset} c.ranges.offset) in
    ap (λ (n : ℕ). eqb (n % 60) 0 && ltb n 360000) size_is
