-- `lines::cut::keep` meets its contract: as many bytes are moved as are kept.
use mathlib.Core.Path.{◌≡◌, ◌∙◌}
use mathlib.Core.List.{◌++◌}
use Prim.Native.Nat.{◌+◌, ◌-◌}
use native.Mathlib.Omega.{arith}
use lib.ListN.{length, take, drop}
use Rattle.lines.specs.Lines.{held_part, kept}
use Rattle.lines.proofs.Keeping.{length-kept, kept_is}
use Rattle.lines.proofs.cut.keep.Goals as goal

-- nothing is held
pub returns-then-end-from : goal.returns-then-end-from
returns-then-end-from c =
    let e : 0 ≡ length (kept (held_part c.args.buffer.now c.args.from c.args.end)) = omega (arith, length-kept c.args.from c.args.end c.args.buffer.now, c.min-end.ensures, c.if-end-from.true) in record {
      value = e;
      buffer_after = kept_is c.args.from c.args.end c.args.buffer.now e;
      upper_bound = (omega arith, omega arith);
    }

pub returns : goal.returns
returns c =
    let was = c.args.buffer.now in
    let from = c.args.from in
    let end = c.args.end in
    let n = c.min-n.result in
    let e : n ≡ length (kept (held_part was from end)) = omega (arith, length-kept from end was, c.min-end.ensures, c.min-n.ensures, c.if-end-from.false) in
    let m : from + n - from ≡ n = omega arith in
    let z : 0 + (from + n - from) ≡ n = omega arith in record {
      value = e;
      buffer_after = c.copy_within.ensures.after ∙ (λ i. take (m i) (drop from was) ++ drop (z i) was) ∙ kept_is from end was e;
      upper_bound = (omega (arith, c.min-n.ensures), omega (arith, c.min-n.ensures, c.min-end.ensures, c.if-end-from.false));
    }
