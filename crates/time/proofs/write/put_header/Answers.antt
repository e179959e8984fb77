-- `time::write::put_header` meets its contract: the offset, and the seconds in front of it.
use mathlib.Core.Path.{◌≡◌}
use mathlib.Core.List.{◌∷◌, ◌++◌}
use Prim.Native.Nat.{ℕ, ◌+◌, ◌-◌}
use native.Mathlib.Omega.{arith}
use lib.IntN.{ℤ}
use lib.ListN.{length, drop}
use mir.Syntax.{w64}
use Rattle.ints.proofs.Machine.{param}
use Rattle.text.specs.Decimal.{signed, signed_before}
use Rattle.text.proofs.Putting.{put_put}
use Rattle.time.specs.Header.{offset_bytes, space, size_of}
use borrow.Author.Rules.{rules}
use Rattle.time.proofs.write.put_header.Goals as goal

-- the end of the seconds
end_is : (z : ℤ) {e : ℕ} → e ≡ size_of z → e ≡ length (signed z) + 6
unfolding size_of
end_is z e = e

pub put_offset-requires : goal.put_offset-requires
put_offset-requires c = (c.requires.0, omega (arith, end_is c.args.seconds c.requires.1), c.requires.2)

pub overflow_sub-end : goal.overflow_sub-end
overflow_sub-end c = omega (arith, end_is c.args.seconds c.requires.1)

pub put_signed-requires : goal.put_signed-requires
put_signed-requires c =
    rw (param w64 c.ranges.seconds).is (omega (arith, end_is c.args.seconds c.requires.1), search rules)

pub returns : goal.returns
returns c =
    let z = c.args.seconds in
    let e = c.args.end in
    let l = c.args.room.now in
    let p = rw (param w64 c.ranges.seconds).is at c.put_signed.ensures.room_after in
    put_put (signed_before z) l (space ∷ offset_bytes c.args.sign c.args.minutes ++ drop e l) _ _ (e - 6 - length (signed z)) 0 (e - 6)
    c.put_offset.ensures p (omega (arith, end_is z c.requires.1)) (omega arith) (omega (arith, c.requires.2))
