-- `stamps::write::put_since` meets its contract: five parts, one behind the other.
use mathlib.Core.Path.{subst, ap, ◌∙◌}
use mathlib.Core.List.{[], ◌∷◌, ◌++◌}
use native.Mathlib.Omega.{arith}
use lib.IntN.{ℤ}
use lib.ListN.{length, length-append}
use mir.Syntax.{w32, w64}
use mir.Val.{SFits, to_z, of_z}
use mir.ValLaws.{to_z-of_z}
use Rattle.text.specs.Decimal.{signed}
use Rattle.text.specs.Lines.{tab, newline}
use Rattle.text.specs.Quote.{bytes}
use Rattle.stamps.specs.Writing.{since_line}
use Rattle.text.proofs.Behind.{Front, front-append, front_room, front_whole}
use Rattle.stamps.proofs.Writing.{length-ended-since_line}
use borrow.Author.Rules.{rules}
use Rattle.stamps.proofs.write.put_since.Goals as goal

pub put_part-at-requires : goal.put_part-at-requires
put_part-at-requires c =
    omega (arith, c.requires, length-ended-since_line c.args.text.now c.args.current)

pub put_field-at-requires : goal.put_field-at-requires
put_field-at-requires c =
    let a = c.args in
    let since : Front (bytes "since") a.room.now c.put_part-at.new.room c.put_part-at.result = record { is = c.put_part-at.ensures.room_after; place = c.put_part-at.ensures.value } in
    front_room (tab ∷ a.text.now) since
    (omega (arith, c.requires, length-ended-since_line a.text.now a.current, length-append (bytes "since") (tab ∷ a.text.now)))

pub put_number_field-at-requires : goal.put_number_field-at-requires
put_number_field-at-requires c =
    let a = c.args in
    let since : Front (bytes "since") a.room.now c.put_part-at.new.room c.put_part-at.result = record { is = c.put_part-at.ensures.room_after; place = c.put_part-at.ensures.value } in
    let text = front-append (tab ∷ a.text.now) since c.put_field-at.ensures.room_after c.put_field-at.ensures.value in
    let f : SFits w64 a.current.seconds = search rules in
    let z = to_z-of_z w64 a.current.seconds f in
    let w = tab ∷ signed (to_z w64 (of_z w64 a.current.seconds)) in
    front_room w text
    (omega (arith, c.requires, ap (λ (z : ℤ). length (signed z)) z, length-ended-since_line a.text.now a.current, length-append (bytes "since" ++ tab ∷ a.text.now) w, length-append (bytes "since") (tab ∷ a.text.now)))

pub put_number_field-at-requires-2 : goal.put_number_field-at-requires-2
unfolding since_line
put_number_field-at-requires-2 c =
    let a = c.args in
    let since : Front (bytes "since") a.room.now c.put_part-at.new.room c.put_part-at.result = record { is = c.put_part-at.ensures.room_after; place = c.put_part-at.ensures.value } in
    let text = front-append (tab ∷ a.text.now) since c.put_field-at.ensures.room_after c.put_field-at.ensures.value in
    let f : SFits w64 a.current.seconds = search rules in
    let z = to_z-of_z w64 a.current.seconds f in
    let seconds =
    subst (λ (z : ℤ). Front (bytes "since" ++ tab ∷ a.text.now ++ tab ∷ signed z) a.room.now c.put_number_field-at.new.room c.put_number_field-at.result) z
    (front-append _ text c.put_number_field-at.ensures.room_after c.put_number_field-at.ensures.value) in
    let g : SFits w32 a.current.offset = search rules in
    let h : SFits w64 c.from.result = search rules in
    let o = to_z-of_z w64 c.from.result h ∙ c.from.ensures ∙ to_z-of_z w32 a.current.offset g in
    let w = tab ∷ signed (to_z w64 (of_z w64 c.from.result)) in
    let front = bytes "since" ++ tab ∷ a.text.now ++ tab ∷ signed a.current.seconds in
    front_room w seconds
    (omega (arith, c.requires, ap (λ (z : ℤ). length (signed z)) o, length-append front w, length-append front (tab ∷ signed a.current.offset), length-append (since_line a.text.now a.current) (newline ∷ [])))

pub put_part-requires : goal.put_part-requires
unfolding since_line
put_part-requires c =
    let a = c.args in
    let since : Front (bytes "since") a.room.now c.put_part-at.new.room c.put_part-at.result = record { is = c.put_part-at.ensures.room_after; place = c.put_part-at.ensures.value } in
    let text = front-append (tab ∷ a.text.now) since c.put_field-at.ensures.room_after c.put_field-at.ensures.value in
    let f : SFits w64 a.current.seconds = search rules in
    let z = to_z-of_z w64 a.current.seconds f in
    let seconds =
    subst (λ (z : ℤ). Front (bytes "since" ++ tab ∷ a.text.now ++ tab ∷ signed z) a.room.now c.put_number_field-at.new.room c.put_number_field-at.result) z
    (front-append _ text c.put_number_field-at.ensures.room_after c.put_number_field-at.ensures.value) in
    let g : SFits w32 a.current.offset = search rules in
    let h : SFits w64 c.from.result = search rules in
    let o = to_z-of_z w64 c.from.result h ∙ c.from.ensures ∙ to_z-of_z w32 a.current.offset g in
    let offset =
    subst (λ (z : ℤ). Front (bytes "since" ++ tab ∷ a.text.now ++ tab ∷ signed a.current.seconds ++ tab ∷ signed z) a.room.now c.put_number_field-at-2.new.room c.put_number_field-at-2.result) o
    (front-append _ seconds c.put_number_field-at-2.ensures.room_after c.put_number_field-at-2.ensures.value) in
    front_room (newline ∷ []) offset c.requires

pub returns : goal.returns
unfolding since_line
returns c =
    let a = c.args in
    let since : Front (bytes "since") a.room.now c.put_part-at.new.room c.put_part-at.result = record { is = c.put_part-at.ensures.room_after; place = c.put_part-at.ensures.value } in
    let text = front-append (tab ∷ a.text.now) since c.put_field-at.ensures.room_after c.put_field-at.ensures.value in
    let f : SFits w64 a.current.seconds = search rules in
    let z = to_z-of_z w64 a.current.seconds f in
    let seconds =
    subst (λ (z : ℤ). Front (bytes "since" ++ tab ∷ a.text.now ++ tab ∷ signed z) a.room.now c.put_number_field-at.new.room c.put_number_field-at.result) z
    (front-append _ text c.put_number_field-at.ensures.room_after c.put_number_field-at.ensures.value) in
    let g : SFits w32 a.current.offset = search rules in
    let h : SFits w64 c.from.result = search rules in
    let o = to_z-of_z w64 c.from.result h ∙ c.from.ensures ∙ to_z-of_z w32 a.current.offset g in
    let offset =
    subst (λ (z : ℤ). Front (bytes "since" ++ tab ∷ a.text.now ++ tab ∷ signed a.current.seconds ++ tab ∷ signed z) a.room.now c.put_number_field-at-2.new.room c.put_number_field-at-2.result) o
    (front-append _ seconds c.put_number_field-at-2.ensures.room_after c.put_number_field-at-2.ensures.value) in
    front_whole (front-append (newline ∷ []) offset c.put_part.ensures.room_after c.put_part.ensures.value)
