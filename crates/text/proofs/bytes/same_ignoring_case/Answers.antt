-- `text::bytes::same_ignoring_case` meets its contract.
use mathlib.Core.Path.{sym}
use Prim.Native.Nat.{◌<◌, ◌≤◌}
use borrow.Author.Rules.{rules}
use borrow.Author.Tests.{eq-eqb, ne_eqb}
use lib.ListN.{length, drop_of_length-le}
use Rattle.text.specs.Bytes.{same_letters}
use Rattle.text.proofs.Lists.{drop-cons-add-one, same_letters_of_length}
use Rattle.text.proofs.bytes.same_ignoring_case.Goals as goal

pub returns-then-s-t : goal.returns-then-s-t
returns-then-s-t c = sym (same_letters_of_length _ _ (λ e. c.if-s-t.true e))

pub returns-then-lower : goal.returns-then-lower
unfolding same_letters
returns-then-lower c = let k : c.loop-i.i < length c.args.s.now = search rules in
    rw (c.loop-i.invariant, drop-cons-add-one _ _ k, drop-cons-add-one _ _ c.loop-i-test.true, ← c.lower.ensures, ← c.lower-in-loop-i.ensures, ne_eqb _ _ c.if-lower.true)

pub loop-i-preserved : goal.loop-i-preserved
unfolding same_letters
loop-i-preserved c = let k : c.loop-i.i < length c.args.s.now = search rules in
    rw (drop-cons-add-one _ _ k, drop-cons-add-one _ _ c.loop-i-test.true, ← c.lower.ensures, ← c.lower-in-loop-i.ensures, eq-eqb _ _ c.if-lower.false) at c.loop-i.invariant

pub returns : goal.returns
unfolding same_letters
returns c = let k : length c.args.s.now ≤ c.loop-i.i = search rules in
    rw (c.loop-i.invariant, drop_of_length-le _ k, drop_of_length-le _ c.loop-i-test.false)
