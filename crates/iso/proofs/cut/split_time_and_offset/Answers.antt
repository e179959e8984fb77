-- `iso::cut::split_time_and_offset` meets its contract: the tests are in the order of RULES 6.6.
use mathlib.Core.Path.{sym, ◌∙◌}
use Prim.Native.Nat.{◌-◌}
use native.Mathlib.Omega.{arith}
use borrow.Author.Tests.{eq-eqb, ne_eqb}
use lib.ListN.{length}
use lib.Seq.{length-take-le}
use Rattle.text.specs.Places.{last_place, opens_with}
use Rattle.text.proofs.Runs.{last_where-le-length}
use Rattle.iso.specs.Cut.{is_offset}
use Rattle.iso.proofs.Cuts.{cut-nil, cut_zed, cut_space, cut_sign, sign_place_of_lt, sign_place_of_le}
use borrow.Author.Rules.{rules}
use Rattle.iso.proofs.cut.split_time_and_offset.Goals as goal

-- an empty text
pub returns-in_default : goal.returns-in_default
returns-in_default c = (cut-nil _ (omega arith), search rules)

-- a final `Z`
pub returns-then-last-eq90 : goal.returns-then-last-eq90
returns-then-last-eq90 c =
    let front = length-take-le (length c.args.s.now - 1) c.args.s.now (omega arith) in
    (front ∙ cut_zed _ (eq-eqb _ _ c.if-last-eq90.true), omega (arith, front))

-- the last space is beyond place 5, and what follows it starts with a sign
pub returns-then-is_spaced : goal.returns-then-is_spaced
unfolding last_place
returns-then-is_spaced c =
    let m = c.find_marks-m.ensures in
    (cut_space _ (ne_eqb _ _ c.if-last-eq90.false) _ m.space (sym c.is_spaced.ensures ∙ c.if-is_spaced.true), rw m.space (last_where-le-length (opens_with 32) _))

-- a sign at place 0 or 1 opens no offset
pub returns-then-m-lt2 : goal.returns-then-m-lt2
returns-then-m-lt2 c =
    (sign_place_of_lt _ _ c.find_marks-m.ensures.sign c.if-m-lt2.true ∙ cut_sign _ (ne_eqb _ _ c.if-last-eq90.false) (sym c.is_spaced.ensures ∙ c.if-is_spaced.false), search rules)

-- at place 2 or later, or at the end
pub returns-else-m-lt2 : goal.returns-else-m-lt2
returns-else-m-lt2 c =
    let m = c.find_marks-m.ensures in
    (sign_place_of_le _ _ m.sign c.if-m-lt2.false ∙ cut_sign _ (ne_eqb _ _ c.if-last-eq90.false) (sym c.is_spaced.ensures ∙ c.if-is_spaced.false), rw m.sign (last_where-le-length is_offset _))
