-- `iso::offset::hours_minutes` meets its contract. The invariant: the first n of f, and the bytes left at the index of b that are no
-- colons, are all of these.
use mathlib.Core.Path.{◌≡◌, ap, ◌∙◌}
use Prim.Native.Nat.{◌≤◌, ◌<◌}
use native.Mathlib.Omega.{arith}
use borrow.Author.Tests.{eq-eqb, ne_eqb}
use lib.ListN.{length, take, length-set}
use lib.Seq.{length-take-le}
use Rattle.iso.specs.Parts.{without}
use Rattle.iso.proofs.Places.{kept_skip, kept_on, kept_over, kept_end}
use Rattle.iso.proofs.Offsets.{hours_minutes-two, hours_minutes-four, hours_minutes-not}
use Rattle.iso.proofs.offset.hours_minutes.Goals as goal

-- a colon
pub loop-b-preserved-then-b-eq58 : goal.loop-b-preserved-then-b-eq58
loop-b-preserved-then-b-eq58 c =
    let s = c.args.s.now in
    let m = c.loop-b.invariant in
    (m.0, m.1, kept_skip 58 s _ c.loop-b-test.true c.loop-b.f c.loop-b.n m.2 (eq-eqb _ _ c.if-b-eq58.true))

-- a fifth byte
pub returns-then-n-eq4-clause-is : goal.returns-then-n-eq4-clause-is
returns-then-n-eq4-clause-is c =
    let s = c.args.s.now in
    let m = c.loop-b.invariant in
    let k : c.loop-b.n ≤ length c.loop-b.f = omega (arith, m.0, m.1) in
    let w : c.loop-b.n < length (without 58 s) = kept_over 58 s _ c.loop-b-test.true c.loop-b.f c.loop-b.n m.2 (ne_eqb _ _ c.if-b-eq58.false) k in
    let n : c.loop-b.n ≡ 4 = c.if-n-eq4.true in
    hours_minutes-not (without 58 s) (λ e. omega (arith, w, n, e)) (λ e. omega (arith, w, n, e))

pub loop-b-preserved : goal.loop-b-preserved
loop-b-preserved c =
    let s = c.args.s.now in
    let m = c.loop-b.invariant in
    let room : c.loop-b.n < 4 = omega (arith, m.1, c.if-n-eq4.false) in
    let k : c.loop-b.n < length c.loop-b.f = omega (arith, m.0) in
    (length-set c.loop-b.f _ _ ∙ m.0, omega arith, kept_on 58 s _ c.loop-b-test.true c.loop-b.f c.loop-b.n m.2 (ne_eqb _ _ c.if-b-eq58.false) k)

-- HH
pub returns-in-2-clause-is : goal.returns-in-2-clause-is
returns-in-2-clause-is c =
    let held : without 58 c.args.s.now ≡ take c.loop-b.n c.loop-b.f = kept_end 58 c.args.s.now c.loop-b.b-index c.loop-b.f c.loop-b.n c.loop-b.invariant.2 c.loop-b-test.false in
    rw (c.seconds.ensures.is, c.field.ensures.is, held, c.in-2.is) (hours_minutes-two c.loop-b.f c.loop-b.invariant.0)

-- HHMM
pub returns-in-4-clause-is : goal.returns-in-4-clause-is
returns-in-4-clause-is c =
    let held : without 58 c.args.s.now ≡ take c.loop-b.n c.loop-b.f = kept_end 58 c.args.s.now c.loop-b.b-index c.loop-b.f c.loop-b.n c.loop-b.invariant.2 c.loop-b-test.false in
    rw (c.seconds-in-4.ensures.is, c.field-in-4-2.ensures.is, c.field-in-4.ensures.is, held, c.in-4.is) (hours_minutes-four c.loop-b.f c.loop-b.invariant.0)

-- any other number of bytes
pub returns-in_default-clause-is : goal.returns-in_default-clause-is
returns-in_default-clause-is c =
    let k : c.loop-b.n ≤ length c.loop-b.f = omega (arith, c.loop-b.invariant.0, c.loop-b.invariant.1) in
    let held : without 58 c.args.s.now ≡ take c.loop-b.n c.loop-b.f = kept_end 58 c.args.s.now c.loop-b.b-index c.loop-b.f c.loop-b.n c.loop-b.invariant.2 c.loop-b-test.false in
    let w = ap length held ∙ length-take-le c.loop-b.n c.loop-b.f k in
    hours_minutes-not _ (λ e. omega (arith, w, e)) (λ e. omega (arith, w, e))
