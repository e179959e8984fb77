-- `iso::cut::is_spaced` meets its contract.
use mathlib.Core.Path.{◌≡◌, sym, ap, ◌∙◌}
use native.Mathlib.Omega.{arith}
use Rattle.text.specs.Places.{last_place, opens_with}
use Rattle.text.proofs.Lists.{take-length-sub-drop}
use Rattle.text.proofs.Runs.{last_where-le-length}
use Rattle.iso.specs.Cut.{is_signed, splits_at_space}
use Rattle.iso.proofs.Cuts.{splits_at_space_of_le, splits_at_space_of_lt, is_signed_of_lt, is_signed_of_length}
use Rattle.iso.proofs.cut.is_spaced.Goals as goal
use Rattle.iso.proofs.cut.is_spaced.Goals.{After-trimmed-rest}

-- what follows, trimmed
told : (c : After-trimmed-rest) → splits_at_space c.args.s.now ≡ is_signed c.trimmed-rest.result.now
told c =
    splits_at_space_of_lt _ _ c.requires c.if-at-le5.false ∙ ap is_signed (sym (rw take-length-sub-drop at c.trimmed-rest.ensures))

pub returns-then-at-le5 : goal.returns-then-at-le5
returns-then-at-le5 c = sym (splits_at_space_of_le _ _ c.requires c.if-at-le5.true)

pub slice_bounds-trimmed-count : goal.slice_bounds-trimmed-count
unfolding last_place
slice_bounds-trimmed-count c = rw c.requires (last_where-le-length (opens_with 32) c.args.s.now)

pub slice_bounds-trimmed-start : goal.slice_bounds-trimmed-start
unfolding last_place
slice_bounds-trimmed-start c = rw c.requires (last_where-le-length (opens_with 32) c.args.s.now)

pub returns-in_default : goal.returns-in_default
returns-in_default c = sym (told (goal.at.returns-in_default c).After-trimmed-rest ∙ is_signed_of_length _ (omega (arith, c.in_default.len_below)))

pub returns : goal.returns
returns c =
    c.is_sign.ensures ∙ sym (told (goal.at.returns c).After-trimmed-rest ∙ is_signed_of_lt _ (omega (arith, c.in-len1-up.len_at_least)))
