-- `merge::taking::front_at` meets its contract.
use mathlib.Core.Path.{ap, ◌∙◌}
use Prim.Native.Nat.{◌+◌}
use lib.ListN.{take}
use Rattle.text.specs.Places.{first_place}
use Rattle.text.specs.Lines.{newline}
use Rattle.merge.proofs.taking.front_at.Goals as goal

pub returns : goal.returns
returns c =
    let rest = c.from-rest.ensures in
    let place = c.first_place-end.ensures.0 ∙ ap (first_place newline) rest in
    c.up_to.ensures ∙ (λ i. take (place i + 1) (rest i))
