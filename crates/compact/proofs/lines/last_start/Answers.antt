-- `compact::lines::last_start` meets its contract. The invariant: no newline is at i or behind it, so the text up to i has the same lines.
use mathlib.Core.Path.{◌≡◌, sym, ap, ◌∙◌}
use mathlib.Core.List.{[], ◌∷◌, ◌++◌}
use Prim.Native.Nat.{ℕ, suc, ◌-◌, ◌<◌}
use native.Mathlib.Omega.{arith}
use borrow.Author.Tests.{ne_eqb}
use lib.ListN.{length, take, get_or, length-take}
use lib.Seq.{take-length}
use Rattle.text.specs.Lines.{newline, ended_lines, taken_by}
use Rattle.text.proofs.Lists.{take_snoc}
use Rattle.stamps.proofs.Books.{ended_lines-nil}
use Rattle.compact.proofs.LastLines.{ended_lines-snoc, taken_by-newline}
use Rattle.compact.proofs.lines.last_start.Goals as goal

pub loop-i-init : goal.loop-i-init
loop-i-init c = ap ended_lines (sym (take-length c.args.s.now))

-- a newline: the line begins behind it
pub returns-then-s-i-eq10 : goal.returns-then-s-i-eq10
returns-then-s-i-eq10 c =
    let s = c.args.s.now in
    let i = c.loop-i.i in
    let some : 0 < i = c.loop-i-test.true in
    let e : take i s ≡ take (i - 1) s ++ (newline ∷ []) =
    take_snoc s i some c.loop-i.auto.i ∙ ap (λ (b : ℕ). take (i - 1) s ++ (b ∷ [])) c.if-s-i-eq10.true in
    let n : taken_by (ended_lines s) ≡ suc (length (take (i - 1) s)) = ap taken_by (c.loop-i.invariant ∙ ap ended_lines e) ∙ taken_by-newline (take (i - 1) s) in
    omega (arith, n, length-take (i - 1) s, c.loop-i.auto.i)

pub loop-i-preserved : goal.loop-i-preserved
loop-i-preserved c =
    let s = c.args.s.now in
    let i = c.loop-i.i in
    let some : 0 < i = c.loop-i-test.true in
    c.loop-i.invariant ∙ ap ended_lines (take_snoc s i some c.loop-i.auto.i) ∙ ended_lines-snoc (take (i - 1) s) (get_or s (i - 1) 0) (ne_eqb _ _ c.if-s-i-eq10.false)

-- no newline at all
pub returns : goal.returns
unfolding taken_by
returns c =
    let z : c.loop-i.i ≡ 0 = omega (arith, c.loop-i-test.false) in
    sym (ap taken_by (c.loop-i.invariant ∙ ap (λ (k : ℕ). ended_lines (take k c.args.s.now)) z ∙ ended_lines-nil))
