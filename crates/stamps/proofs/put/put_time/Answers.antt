-- `stamps::put::put_time` meets its contract: the header fits, so it is written to the front of the part that is borrowed.
use mathlib.Core.Path.{◌≡◌, sym, ap, ◌∙◌}
use native.Mathlib.Omega.{arith}
use Prim.Native.Nat.{ℕ, ◌+◌}
use lib.ListN.{length}
use Rattle.time.specs.Header.{header_bytes}
use Rattle.stamps.proofs.Putting.{written_from}
use Rattle.stamps.proofs.put.put_time.Goals as goal

pub unwrap-requires : goal.unwrap-requires
unwrap-requires c = let a = c.args in rw (c.write_to.ensures.value, written_from a.t a.room.now a.at c.requires.0 c.requires.1)

length_is : (c : goal.After-unwrap) → c.unwrap.result ≡ length (header_bytes c.args.t)
length_is c = let a = c.args in let w = sym c.unwrap.ensures ∙ c.write_to.ensures.value ∙ written_from a.t a.room.now a.at c.requires.0 c.requires.1 in cc

pub overflow_add-result : goal.overflow_add-result
overflow_add-result c = let n = length_is c in omega arith

pub returns-clause-value : goal.returns-clause-value
returns-clause-value c = ap (λ (n : ℕ). c.args.at + n) (length_is c)
