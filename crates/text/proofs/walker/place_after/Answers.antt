-- `text::walker::place_after` meets its contract. The invariant: the place past n words from `at` is the place past the words that
-- are left to pass from i.
use Rattle.std.proofs.Common.{◌≡◌, ◌≤◌, ◌<◌, ◌-◌, ◌+◌, sym, ◌∙◌, ap, ℕ, arith}
use Rattle.text.specs.Walk.{passed}
use Rattle.text.proofs.Walking.{passed_of_le-zero, passed_of_None, passed_of_Some}
use Rattle.text.proofs.walker.place_after.Goals as goal

-- no word is left: the place stays the same
pub returns-in_default : goal.returns-in_default
returns-in_default g c =
    sym (c.loop.invariant ∙ passed_of_None _ _ _ _ (sym c.take.ensures ∙ c.in_default.is))

-- a word: one fewer to pass
pub loop-preserved : goal.loop-preserved
loop-preserved g c =
    let some : 0 < c.args.n - c.loop.counter = omega arith in
    let fewer : c.args.n - c.loop.counter - 1 ≡ c.args.n - (c.loop.counter + 1) = omega arith in
    c.loop.invariant ∙ passed_of_Some _ _ _ _ _ _ some (sym c.take.ensures ∙ c.in-Some.is)
    ∙ ap (λ (k : ℕ). passed g.C.Class.holds k c.args.text.now c.in-Some.past.at) fewer

-- none to pass
pub returns : goal.returns
returns g c =
    let none : c.args.n - c.loop.counter ≤ 0 = omega arith in
    sym (c.loop.invariant ∙ passed_of_le-zero _ _ _ _ none)
