-- `header::raw::allows` meets its contract: its tests, which compare bits, are those of the rule.
use mathlib.Core.Path.{◌≡◌, ◌∙◌, ap}
use mathlib.Core.Bool.{Bool, ◌&&◌}
use lib.Dec.{eqb}
use lib.IntN.{pos}
use lib.Signed.{mag}
use Prim.Native.Nat.{◌^◌, ◌<◌}
use native.Mathlib.Omega.{arith}
use mir.Syntax.{w64}
use mir.Val.{of_z, hbits}
use Rattle.ints.proofs.Machine.{back}
use Rattle.ints.proofs.Equals.{eqb-of_z}
use Rattle.header.specs.Raw.{Limits, rule1, rule2, allows as allows_of}
use Rattle.header.specs.declared.offset.Fields.{Fields}
use Rattle.header.proofs.raw.allows.Goals as goal

-- tests of hours and minutes that are those of the limits, and the test of seconds
is-allowed : (l : Limits) (f : Fields) {h m : Bool} → h ≡ l.hours f.hours → m ≡ l.minutes f.minutes → mag f.seconds < 2 ^ hbits w64
    → ((h && m) && eqb (of_z w64 f.seconds) 0) ≡ allows_of l f
unfolding allows_of
is-allowed l f hours minutes x = rw (hours, minutes, eqb-of_z w64 f.seconds (pos 0) (record { sfits = x }) (record { sfits = omega arith }))

pub returns-in-Two : goal.returns-in-Two
returns-in-Two c =
    let f = c.args.f in
    rw c.in-Two.is
    (is-allowed rule2 f
    (ap rule2.hours (back w64 f.hours (omega arith)))
    (ap rule2.minutes (back w64 f.minutes (omega arith)))
    (omega arith))

pub returns-in-One : goal.returns-in-One
returns-in-One c =
    let f = c.args.f in
    rw c.in-One.is
    (is-allowed rule1 f
    (ap rule1.hours (back w64 f.hours (omega arith)))
    (c.is_quarter.ensures ∙ ap rule1.minutes (back w64 f.minutes (omega arith)))
    (omega arith))
