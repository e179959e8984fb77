-- `salvage::rows::put_row` meets its contract: the newline, the length in front of it, the tab, the number.
use mathlib.Core.Path.{◌≡◌}
use Prim.Native.Nat.{ℕ, ◌+◌, ◌-◌, ◌≤◌}
use native.Mathlib.Omega.{arith}
use borrow.Author.Rules.{rules}
use lib.ListN.{length}
use Rattle.text.specs.Decimal.{decimal}
use Rattle.salvage.specs.Held.{ended_row}
use Rattle.salvage.proofs.PutRows.{length-ended_row, row_put}
use Rattle.salvage.proofs.rows.put_row.Goals as goal

-- the row has room in front of its end
enough : (n size end : ℕ) → length (ended_row n size) ≤ end → length (decimal n) + length (decimal size) + 2 ≤ end
enough n size end h = omega (arith, length-ended_row n size)

-- and the tab and the number have room in front of the length
enough_below : (n size end at : ℕ) → length (ended_row n size) ≤ end → at ≡ end - 1 - length (decimal size) → length (decimal n) + 1 ≤ at
enough_below n size end at h e = omega (arith, enough n size end h)

pub put_byte-requires : goal.put_byte-requires
put_byte-requires c = (omega (arith, enough c.args.n c.args.size c.args.end c.requires.0), c.requires.1)

pub overflow_sub-end : goal.overflow_sub-end
overflow_sub-end c = omega (arith, enough c.args.n c.args.size c.args.end c.requires.0)

pub put_decimal-at-requires : goal.put_decimal-at-requires
put_decimal-at-requires c = (omega (arith, enough c.args.n c.args.size c.args.end c.requires.0), search rules)

pub put_byte-requires-2 : goal.put_byte-requires-2
put_byte-requires-2 c =
    (omega (arith, enough_below c.args.n c.args.size c.args.end _ c.requires.0 c.put_decimal-at.ensures.value), search rules)

pub put_decimal-requires : goal.put_decimal-requires
put_decimal-requires c =
    (omega (arith, enough_below c.args.n c.args.size c.args.end _ c.requires.0 c.put_decimal-at.ensures.value), search rules)

pub returns : goal.returns
returns c =
    row_put c.args.n c.args.size c.args.end _ c.args.report.now _ _ _ _ c.requires.0 c.requires.1 c.put_byte.ensures
    c.put_decimal-at.ensures.value c.put_decimal-at.ensures.room_after c.put_byte-2.ensures c.put_decimal.ensures.room_after
