-- `stamps::write::put_if_fits` meets its contract: its three answers, each with the room that it leaves.
use mathlib.Core.Path.{◌≡◌, refl, sym, ap, ◌∙◌}
use mathlib.Core.List.{List}
use Prim.Native.Nat.{ℕ, ◌+◌}
use native.Mathlib.Omega.{arith}
use lib.IntN.{ℤ}
use lib.ListN.{length}
use mir.Syntax.{w32, w64}
use mir.Val.{SFits}
use mir.ValLaws.{to_z-of_z}
use Rattle.text.specs.Decimal.{signed}
use Rattle.time.specs.declared.Time.{Time}
use Rattle.stamps.specs.Writing.{since_line, ended}
use Rattle.stamps.proofs.Writing.{length-ended-since_line, wrote_too_short, wrote_line}
use borrow.Author.Rules.{rules}
use Rattle.stamps.proofs.write.put_if_fits.Goals as goal

-- the bytes of the line, by the bytes of its two numbers
width_is : (text : List ℕ) (t : Time) (a b : ℕ) (s o : ℤ) → s ≡ t.seconds → o ≡ t.offset → a ≡ length (signed s) → b ≡ length (signed o)
    → length (ended (since_line text t)) ≡ length text + (a + b + 9)
width_is text t a b s o f g h k =
    omega (arith, length-ended-since_line text t, h, k, ap (λ (z : ℤ). length (signed z)) f, ap (λ (z : ℤ). length (signed z)) g)

pub returns-then-room-text : goal.returns-then-room-text
returns-then-room-text c =
    let all = wrote_too_short (since_line c.args.text.now c.args.current) c.args.room.now refl
    (omega (arith, c.if-room-text.true, length-ended-since_line c.args.text.now c.args.current)) in record { value = all.0; room_after = all.1 }

pub returns-then-room-text-2 : goal.returns-then-room-text-2
returns-then-room-text-2 c =
    let t = c.args.current in
    let f : SFits w64 t.seconds = search rules in
    let g : SFits w32 t.offset = search rules in
    let h : SFits w64 c.from.result = search rules in
    let w = width_is c.args.text.now t _ _ _ _ (to_z-of_z w64 t.seconds f) (to_z-of_z w64 c.from.result h ∙ c.from.ensures ∙ to_z-of_z w32 t.offset g)
    c.signed_width.ensures.0 c.signed_width-2.ensures.0 in
    let all = wrote_too_short (since_line c.args.text.now c.args.current) c.args.room.now refl
    (omega (arith, c.if-room-text-2.true, c.if-room-text.false, w)) in record { value = all.0; room_after = all.1 }

pub put_since-requires : goal.put_since-requires
put_since-requires c =
    let t = c.args.current in
    let f : SFits w64 t.seconds = search rules in
    let g : SFits w32 t.offset = search rules in
    let h : SFits w64 c.from.result = search rules in
    let w = width_is c.args.text.now t _ _ _ _ (to_z-of_z w64 t.seconds f) (to_z-of_z w64 c.from.result h ∙ c.from.ensures ∙ to_z-of_z w32 t.offset g)
    c.signed_width.ensures.0 c.signed_width-2.ensures.0 in
    omega (arith, c.if-room-text-2.false, c.if-room-text.false, w)

pub returns : goal.returns
returns c =
    let t = c.args.current in
    let f : SFits w64 t.seconds = search rules in
    let g : SFits w32 t.offset = search rules in
    let h : SFits w64 c.from.result = search rules in
    let w = width_is c.args.text.now t _ _ _ _ (to_z-of_z w64 t.seconds f) (to_z-of_z w64 c.from.result h ∙ c.from.ensures ∙ to_z-of_z w32 t.offset g)
    c.signed_width.ensures.0 c.signed_width-2.ensures.0 in
    let all = wrote_line (since_line c.args.text.now c.args.current) c.args.room.now refl _ _
    (sym w) (omega (arith, c.if-room-text-2.false, c.if-room-text.false)) c.put_since.ensures in record { value = all.0; room_after = all.1 }
