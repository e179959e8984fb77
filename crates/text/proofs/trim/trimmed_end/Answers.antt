-- `text::trim::trimmed_end` meets its contract. The invariant: trimming the first i bytes gives what trimming the whole gives.
use Rattle.std.proofs.Common.{◌≡◌, ◌-◌, ◌+◌, arith}
use Rattle.text.specs.Trim.{trim_end, trim_start}
use Rattle.text.proofs.Lists.{take_snoc}
use Rattle.text.proofs.Trimming.{trim_end-snoc}
use Rattle.text.proofs.trim.trimmed_end.Goals as goal

pub loop-i-preserved : goal.loop-i-preserved
loop-i-preserved c =
    rw (take_snoc _ _ c.loop-i-test.true c.loop-i.auto.i, trim_end-snoc, ← c.is_space.ensures, c.if-not-is_space.false) at c.loop-i.invariant

pub returns-then-not-is_space : goal.returns-then-not-is_space
returns-then-not-is_space c =
    let n : c.loop-i.i - 1 + 1 ≡ c.loop-i.i = omega arith in
    rw (n, c.loop-i.invariant, take_snoc _ _ c.loop-i-test.true c.loop-i.auto.i, trim_end-snoc, ← c.is_space.ensures, c.if-not-is_space.true)

pub returns : goal.returns
unfolding trim_end trim_start
returns c =
    let z : c.loop-i.i ≡ 0 = omega arith in
    rw (c.loop-i.invariant, z)
