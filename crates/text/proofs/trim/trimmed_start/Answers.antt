-- `text::trim::trimmed_start` meets its contract: what is left past the white space is the trimmed text.
use mathlib.Core.Path.{◌≡◌}
use mathlib.Core.List.{List}
use Prim.Native.Nat.{ℕ, ◌≤◌}
use native.Mathlib.Omega.{arith}
use lib.ListN.{length}
use Rattle.text.specs.Bytes.{is_space}
use Rattle.text.specs.Places.{past}
use Rattle.text.proofs.Lists.{take-length-sub-drop}
use Rattle.text.proofs.Runs.{past-le-length}
use Rattle.text.proofs.Trimming.{trim_start-past}
use Rattle.text.proofs.trim.trimmed_start.Goals as goal

within : (s : List ℕ) {i : ℕ} → i ≡ past is_space s 0 → i ≤ length s
within s e = rw e (past-le-length is_space s 0 (omega arith))

pub slice_bounds-result-start : goal.slice_bounds-result-start
slice_bounds-result-start c = within c.args.s.now c.past.ensures

pub slice_bounds-result-count : goal.slice_bounds-result-count
slice_bounds-result-count c = within c.args.s.now c.past.ensures

pub returns : goal.returns
returns c = rw (take-length-sub-drop _ _, c.past.ensures, trim_start-past)
