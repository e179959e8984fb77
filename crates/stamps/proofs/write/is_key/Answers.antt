-- `stamps::write::is_key` meets its contract: the scan reaches the end exactly if every byte is a hexadecimal digit.
use mathlib.Core.Path.{sym, ap, ◌∙◌}
use borrow.Author.Tests.{ne_eqb}
use Prim.Native.Nat.{ℕ}
use lib.Dec.{eqb}
use Rattle.stamps.proofs.Writing.{is_key_of_ne, is_key_of_eq}
use Rattle.stamps.proofs.write.is_key.Goals as goal

pub returns-then-s-eq-KEY : goal.returns-then-s-eq-KEY
returns-then-s-eq-KEY c = ap (λ (n : ℕ). eqb n 16) c.past.ensures ∙ sym (is_key_of_eq _ c.if-s-eq-KEY.true)

pub returns-else-s-eq-KEY : goal.returns-else-s-eq-KEY
returns-else-s-eq-KEY c = ne_eqb _ 16 c.if-s-eq-KEY.false ∙ sym (is_key_of_ne _ c.if-s-eq-KEY.false)
