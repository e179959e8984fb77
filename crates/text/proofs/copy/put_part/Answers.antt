-- `text::copy::put_part` meets its contract: a turn puts one more byte of the part.
use mathlib.Core.Path.{ap, ◌∙◌}
use mathlib.Core.List.{List}
use Prim.Native.Nat.{ℕ, ◌+◌, ◌<◌}
use native.Mathlib.Omega.{arith}
use native.Mathlib.Numerals.{add-one}
use lib.ListN.{length, set, get_or}
use lib.Seq.{paste-suc}
use Rattle.text.proofs.copy.put_part.Goals as goal

pub loop-i-preserved : goal.loop-i-preserved
loop-i-preserved c =
    let inside : c.args.at + c.loop-i.i < length c.args.room.now = omega arith in
    rw add-one
    (ap (λ (l : List ℕ). set l (c.args.at + c.loop-i.i) (get_or c.args.part.now c.loop-i.i 0)) c.loop-i.invariant
    ∙ paste-suc c.args.room.now c.args.at c.args.part.now c.loop-i.i 0 inside c.loop-i-test.true)
