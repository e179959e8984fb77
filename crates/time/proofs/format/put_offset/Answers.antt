-- `time::format::put_offset` meets its contract.
use mathlib.Core.Path.{◌≡◌, refl, ap, ◌∙◌}
use mathlib.Core.List.{◌++◌}
use native.Mathlib.Omega.{arith}
use Prim.Native.Nat.{ℕ, ◌/◌, ◌%◌}
use lib.IntN.{ℤ, nat_abs}
use lib.ListN.{take, drop}
use mir.Syntax.{w32}
use mir.Val.{SFits, to_z, of_z}
use Rattle.ints.proofs.Machine.{param}
use Rattle.text.proofs.Putting.{put_put}
use Rattle.time.specs.Header.{sign_byte, whole_minutes}
use Rattle.time.specs.Iso.{field_before}
use Rattle.time.proofs.format.put_offset.Goals as goal

-- the size of the offset, as it was measured
size_is : {n : ℕ} {o : ℤ} → SFits w32 o → n ≡ nat_abs (to_z w32 (of_z w32 o)) → n ≡ nat_abs o
size_is f e = e ∙ ap nat_abs (param w32 f).is

pub returns : goal.returns
unfolding whole_minutes
returns c =
    let l = c.args.room.now in
    let m = c.offset_size-minutes.result in
    let size = size_is c.ranges.offset c.offset_size-minutes.ensures in
    let s : c.sign_byte.result ≡ sign_byte c.args.offset = c.sign_byte.ensures ∙ ap sign_byte (param w32 c.ranges.offset).is in
    put_put (field_before c.sign_byte.result (m / 60 / 60)) l _ _ _ 19 19 22 c.put_field.ensures c.put_field-2.ensures refl (omega arith) (omega arith)
    ∙ (λ j. take 19 l ++ field_before (s j) (size j / 60 / 60) (field_before 58 (size j / 60 % 60) (drop 25 l)))
