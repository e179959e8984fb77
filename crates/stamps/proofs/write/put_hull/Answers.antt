-- `stamps::write::put_hull` meets its contract: five parts, one behind the other.
use mathlib.Core.List.{[], ◌∷◌, ◌++◌}
use native.Mathlib.Omega.{arith}
use lib.ListN.{length-append}
use Rattle.text.specs.Lines.{tab, newline}
use Rattle.text.specs.Quote.{bytes}
use Rattle.time.specs.Header.{header_bytes}
use Rattle.stamps.specs.Writing.{hull_line}
use Rattle.text.proofs.Behind.{Front, front-append, front_room, front_whole}
use Rattle.stamps.proofs.Writing.{good_hull, length-ended-hull_line}
use Rattle.stamps.proofs.write.put_hull.Goals as goal

pub put_part-at-requires : goal.put_part-at-requires
put_part-at-requires c =
    omega (arith, c.requires.time_in_bounds, length-ended-hull_line c.args.path.now c.args.key.now c.args.time)

pub put_field-at-requires : goal.put_field-at-requires
put_field-at-requires c =
    let a = c.args in
    let hull : Front (bytes "hull") a.room.now c.put_part-at.new.room c.put_part-at.result = record { is = c.put_part-at.ensures.room_after; place = c.put_part-at.ensures.value } in
    front_room (tab ∷ a.path.now) hull
    (omega (arith, c.requires.time_in_bounds, length-ended-hull_line a.path.now a.key.now a.time, length-append (bytes "hull") (tab ∷ a.path.now)))

pub put_field-at-requires-2 : goal.put_field-at-requires-2
put_field-at-requires-2 c =
    let a = c.args in
    let hull : Front (bytes "hull") a.room.now c.put_part-at.new.room c.put_part-at.result = record { is = c.put_part-at.ensures.room_after; place = c.put_part-at.ensures.value } in
    let path = front-append (tab ∷ a.path.now) hull c.put_field-at.ensures.room_after c.put_field-at.ensures.value in
    front_room (tab ∷ a.key.now) path
    (omega (arith, c.requires.time_in_bounds, length-ended-hull_line a.path.now a.key.now a.time, length-append (bytes "hull" ++ tab ∷ a.path.now) (tab ∷ a.key.now), length-append (bytes "hull") (tab ∷ a.path.now)))

pub put_time_field-at-requires : goal.put_time_field-at-requires
unfolding hull_line
put_time_field-at-requires c =
    let a = c.args in
    let hull : Front (bytes "hull") a.room.now c.put_part-at.new.room c.put_part-at.result = record { is = c.put_part-at.ensures.room_after; place = c.put_part-at.ensures.value } in
    let path = front-append (tab ∷ a.path.now) hull c.put_field-at.ensures.room_after c.put_field-at.ensures.value in
    let key = front-append (tab ∷ a.key.now) path c.put_field-at-2.ensures.room_after c.put_field-at-2.ensures.value in (
      (good_hull a.path.now a.key.now a.time c.requires.time_value).narrow,
      front_room (tab ∷ header_bytes a.time) key
          (omega (arith, c.requires.time_in_bounds, length-append (hull_line a.path.now a.key.now a.time) (newline ∷ []))),
    )

pub put_part-requires : goal.put_part-requires
unfolding hull_line
put_part-requires c =
    let a = c.args in
    let hull : Front (bytes "hull") a.room.now c.put_part-at.new.room c.put_part-at.result = record { is = c.put_part-at.ensures.room_after; place = c.put_part-at.ensures.value } in
    let path = front-append (tab ∷ a.path.now) hull c.put_field-at.ensures.room_after c.put_field-at.ensures.value in
    let key = front-append (tab ∷ a.key.now) path c.put_field-at-2.ensures.room_after c.put_field-at-2.ensures.value in
    let time = front-append (tab ∷ header_bytes a.time) key c.put_time_field-at.ensures.room_after c.put_time_field-at.ensures.value in
    front_room (newline ∷ []) time c.requires.time_in_bounds

pub returns : goal.returns
unfolding hull_line
returns c =
    let a = c.args in
    let hull : Front (bytes "hull") a.room.now c.put_part-at.new.room c.put_part-at.result = record { is = c.put_part-at.ensures.room_after; place = c.put_part-at.ensures.value } in
    let path = front-append (tab ∷ a.path.now) hull c.put_field-at.ensures.room_after c.put_field-at.ensures.value in
    let key = front-append (tab ∷ a.key.now) path c.put_field-at-2.ensures.room_after c.put_field-at-2.ensures.value in
    let time = front-append (tab ∷ header_bytes a.time) key c.put_time_field-at.ensures.room_after c.put_time_field-at.ensures.value in
    front_whole (front-append (newline ∷ []) time c.put_part.ensures.room_after c.put_part.ensures.value)
