-- `merge::lists::next_hull` meets its contract, by the kind of the line.
use Rattle.std.specs.Prelude.{None, Some}
use mathlib.Core.Path.{sym, ap, ◌∙◌}
use mathlib.Core.Bool.{Bool, cond}
use mir.Syntax.{w64}
use mir.Val.{SFits}
use mir.ValLaws.{to_z-of_z}
use Prim.Native.Nat.{◌+◌}
use borrow.Author.Rules.{rules}
use borrow.Author.Tests.{le-ltb, lt-ltb}
use lib.IntN.{ℤ}
use Rattle.relative.specs.Relative.{max_pairs}
use Rattle.merge.specs.Held.{hull_next}
use Rattle.merge.proofs.FrontLines.{next_hull, next_other}
use Rattle.merge.proofs.lists.next_hull.Goals as goal

-- no `hull` line
pub returns-in_err-first : goal.returns-in_err-first
returns-in_err-first c = c.from_residual.ensures ∙ next_other max_pairs c.args.s.now (λ h n e. let z = c.in_err-first.ensures ∙ e in cc)

-- one without its newline
pub returns-then-s-first : goal.returns-then-s-first
returns-then-s-first c =
    let size = c.in_ok-first.first.length in
    let h = c.in-Hull.hull in
    ap (λ (b : Bool). cond b (hull_next h.time.seconds (size + 1)) None) (sym (le-ltb size _ c.if-s-first.true))
    ∙ next_hull max_pairs c.args.s.now h size (sym c.in_ok-first.ensures ∙ (λ i. Some (record { line = c.in-Hull.is i; length = size })))

-- one with its newline
pub returns : goal.returns
returns c =
    let size = c.in_ok-first.first.length in
    let h = c.in-Hull.hull in
    let fits : SFits w64 h.time.seconds = search rules in
    ap (λ (z : ℤ). hull_next z (size + 1)) (to_z-of_z w64 _ fits)
    ∙ ap (λ (b : Bool). cond b (hull_next h.time.seconds (size + 1)) None) (sym (lt-ltb size _ c.if-s-first.false))
    ∙ next_hull max_pairs c.args.s.now h size (sym c.in_ok-first.ensures ∙ (λ i. Some (record { line = c.in-Hull.is i; length = size })))
