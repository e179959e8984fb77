-- `compact::compact_good` meets its contract.
use mathlib.Core.Path.{◌≡◌, refl, ap, ◌∙◌}
use mathlib.Core.List.{List, ◌++◌}
use Prim.Native.Nat.{ℕ, ◌≤◌}
use native.Mathlib.Omega.{arith}
use lib.ListN.{length, take, drop}
use Rattle.text.specs.Lines.{ended_lines}
use Rattle.relative.specs.Relative.{max_pairs}
use Rattle.stamps.specs.Copies.{joined}
use Rattle.stamps.proofs.Copies.{copies_too_short, copies_written}
use Rattle.compact.specs.Compact.{kept, compacted}
use Rattle.compact.specs.Held.{lines_down}
use Rattle.compact.proofs.Copying.{lines_down-take}
use Rattle.compact.proofs.compact_good.Goals as goal

-- the lines that are kept, as bytes
bytes-kept : (book places : List ℕ) (count : ℕ) → count ≤ length places → lines_down book places count ≡ kept max_pairs (ended_lines book)
    → joined (lines_down book (take count places) (length (take count places))) ≡ compacted max_pairs book
unfolding compacted
bytes-kept book places count few e = ap joined (lines_down-take book places count few ∙ e)

-- the room is too short
pub returns-then-room-kept : goal.returns-then-room-kept
returns-then-room-kept c =
    let all = copies_too_short (compacted max_pairs c.args.book.now) c.args.room.now refl _ c.keep_lines-kept.ensures.length_value c.if-room-kept.true in record { value = all.0; room_after = all.1 }

pub copy_lines-requires : goal.copy_lines-requires
copy_lines-requires c =
    let kept-are = c.keep_lines-kept.ensures in
    omega (arith, ap length (bytes-kept _ _ _ kept-are.table.few kept-are.table.lines_are), kept-are.length_value, c.if-room-kept.false)

pub returns : goal.returns
returns c =
    let kept-are = c.keep_lines-kept.ensures in
    let all = copies_written (compacted max_pairs c.args.book.now) c.args.room.now refl _ kept-are.length_value _ c.if-room-kept.false
    (c.copy_lines.ensures ∙ ap (λ (bytes : List ℕ). bytes ++ drop (length bytes) c.args.room.now) (bytes-kept _ _ _ kept-are.table.few kept-are.table.lines_are)) in record { value = all.0; room_after = all.1 }
