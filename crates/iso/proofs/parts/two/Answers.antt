-- `iso::parts::two` meets its contract.
use native.Mathlib.Nat.{add-sub_cancel_left}
use Rattle.iso.proofs.parts.two.Goals as goal

pub returns : goal.returns
returns c = rw add-sub_cancel_left
