-- `merge::keys::key_at` meets its contract.
use mathlib.Core.Path.{ap, ◌∙◌}
use mathlib.Core.List.{List}
use Prim.Native.Nat.{ℕ, ◌+◌}
use lib.ListN.{length, take, drop}
use Rattle.compact.specs.Held.{path_at}
use Rattle.merge.specs.Held.{key_at}
use Rattle.merge.proofs.keys.key_at.Goals as goal

pub returns : goal.returns
unfolding key_at
returns c =
    let path_is = c.path_at-path.ensures in
    c.up_to.ensures ∙ ap (take 16) (c.from.ensures ∙ (λ i. drop (5 + (length (path_is i) + 1)) c.from-s.result.now) ∙ ap (λ (s : List ℕ). drop (5 + (length (path_at s) + 1)) s) c.from-s.ensures)
