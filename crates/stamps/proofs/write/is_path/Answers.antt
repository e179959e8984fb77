-- `stamps::write::is_path` meets its contract: the scan reaches the end exactly if every byte is one of a path.
use mathlib.Core.Path.{sym, ap, ◌∙◌}
use Prim.Native.Nat.{ℕ}
use lib.Dec.{eqb}
use lib.ListN.{length}
use Rattle.stamps.proofs.Writing.{is_path_of_size, is_path_of_no_size}
use Rattle.stamps.proofs.write.is_path.Goals as goal

pub returns-then-s : goal.returns-then-s
returns-then-s c = let s = c.args.s.now in ap (λ (n : ℕ). eqb n (length s)) c.past.ensures ∙ sym (is_path_of_size s c.if-s.true)

pub returns-else-s : goal.returns-else-s
returns-else-s c = c.if-s.false ∙ sym (is_path_of_no_size c.args.s.now c.if-s.false)
