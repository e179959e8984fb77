-- `chowderbell::lists::chowderbell_fronts_earlier` meets its contract.
use Rattle.std.proofs.Common.{ap, ◌∙◌, List, ℕ}
use Rattle.relative.specs.Relative.{max_pairs}
use Rattle.merge.specs.Lists.{machine_number}
use Rattle.merge.specs.Held.{whose_of}
use Rattle.merge.proofs.FrontLines.{whose_earlier}
use Rattle.chowderbell.proofs.lists.chowderbell_fronts_earlier.Goals as goal

pub returns-clause-machine_after : goal.returns-clause-machine_after
returns-clause-machine_after c =
    let first = c.args.first.now in
    c.machine_number.ensures
    ∙ ap machine_number (c.whose.ensures ∙ ap (λ (line : List ℕ). whose_of line first) c.earlier-line.ensures ∙ whose_earlier max_pairs first c.args.second.now)
