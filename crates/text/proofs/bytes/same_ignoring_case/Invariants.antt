-- What `text::bytes::same_ignoring_case` keeps: the answer for what is left of both texts is the answer for the whole.
use Rattle.std.proofs.Common.{◌≡◌, drop}
use Rattle.text.specs.Bytes.{same_letters}
use Rattle.text.proofs.bytes.same_ignoring_case.Given as goal

abbrev pub invariant-loop-i : goal.invariant-loop-i
invariant-loop-i l = same_letters l.s l.t ≡ same_letters (drop l.i l.s) (drop l.i l.t)
