-- `lines::print::put_row` meets its contract: six pieces, the last one first.
use mathlib.Core.Path.{◌≡◌, ◌∙◌, ap}
use Prim.Native.Nat.{ℕ, ◌+◌, ◌-◌, ◌≤◌}
use native.Mathlib.Omega.{arith}
use lib.IntN.{ℤ}
use lib.ListN.{length}
use mir.Syntax.{w32, w64}
use mir.Val.{to_z, of_z}
use Rattle.ints.proofs.Machine.{back}
use Rattle.text.specs.Decimal.{decimal, signed}
use Rattle.lines.specs.Rows.{row_bytes}
use Rattle.lines.specs.declared.print.Row.{Row}
use Rattle.lines.proofs.Printing.{length-row_bytes, row_put}
use borrow.Author.Rules.{rules}
use Rattle.lines.proofs.print.put_row.Goals as goal

-- where the offset starts, and where the seconds; o and s are the machine's offset and seconds
offset_at : (row : Row) (o : ℤ) (end a : ℕ) → o ≡ row.offset → end ≡ length (row_bytes row) → a ≡ end - 1 - length (signed o)
    → a ≡ length (decimal row.number) + length (signed row.seconds) + 2
offset_at row o end a eo e p = omega (arith, length-row_bytes row, ap (λ (z : ℤ). length (signed z)) eo)

seconds_at : (row : Row) (o s : ℤ) (end a b : ℕ) → o ≡ row.offset → s ≡ row.seconds → end ≡ length (row_bytes row)
    → a ≡ end - 1 - length (signed o) → b ≡ a - 1 - length (signed s) → b ≡ length (decimal row.number) + 1
seconds_at row o s end a b eo es e p q = omega (arith, offset_at row o end a eo e p, ap (λ (z : ℤ). length (signed z)) es)

pub put_byte-requires : goal.put_byte-requires
put_byte-requires c = (omega (arith, c.requires.0, length-row_bytes c.args.row), c.requires.1)

pub put_signed-offset_at-requires : goal.put_signed-offset_at-requires
put_signed-offset_at-requires c =
    let row = c.args.row in
    let o : to_z w64 (of_z w64 c.from.result) ≡ row.offset = back w64 c.from.result (omega arith) ∙ c.from.ensures ∙ back w32 row.offset (omega arith) in
    let k : c.args.end - 1 ≤ length c.args.out.now = omega (arith, c.requires.1) in
    (omega (arith, ap (λ (z : ℤ). length (signed z)) o, c.requires.0, length-row_bytes row), search rules)

pub put_byte-requires-2 : goal.put_byte-requires-2
put_byte-requires-2 c =
    let row = c.args.row in
    let o : to_z w64 (of_z w64 c.from.result) ≡ row.offset = back w64 c.from.result (omega arith) ∙ c.from.ensures ∙ back w32 row.offset (omega arith) in
    let k : c.put_signed-offset_at.result ≤ length c.args.out.now = omega (arith, c.put_signed-offset_at.ensures.value, c.requires.1) in
    (omega (arith, offset_at row _ c.args.end _ o c.requires.0 c.put_signed-offset_at.ensures.value), search rules)

pub put_signed-seconds_at-requires : goal.put_signed-seconds_at-requires
put_signed-seconds_at-requires c =
    let row = c.args.row in
    let o : to_z w64 (of_z w64 c.from.result) ≡ row.offset = back w64 c.from.result (omega arith) ∙ c.from.ensures ∙ back w32 row.offset (omega arith) in
    let s : to_z w64 (of_z w64 row.seconds) ≡ row.seconds = back w64 row.seconds (omega arith) in
    let k : c.put_signed-offset_at.result - 1 ≤ length c.args.out.now = omega (arith, c.put_signed-offset_at.ensures.value, c.requires.1) in
    (omega (arith, offset_at row _ c.args.end _ o c.requires.0 c.put_signed-offset_at.ensures.value, ap (λ (z : ℤ). length (signed z)) s), search rules)

pub put_byte-requires-3 : goal.put_byte-requires-3
put_byte-requires-3 c =
    let row = c.args.row in
    let o : to_z w64 (of_z w64 c.from.result) ≡ row.offset = back w64 c.from.result (omega arith) ∙ c.from.ensures ∙ back w32 row.offset (omega arith) in
    let s : to_z w64 (of_z w64 row.seconds) ≡ row.seconds = back w64 row.seconds (omega arith) in
    let k : c.put_signed-seconds_at.result ≤ length c.args.out.now = omega (arith, c.put_signed-seconds_at.ensures.value, c.put_signed-offset_at.ensures.value, c.requires.1) in
    (omega (arith, seconds_at row _ _ c.args.end _ _ o s c.requires.0 c.put_signed-offset_at.ensures.value c.put_signed-seconds_at.ensures.value), search rules)

pub put_decimal-requires : goal.put_decimal-requires
put_decimal-requires c =
    let row = c.args.row in
    let o : to_z w64 (of_z w64 c.from.result) ≡ row.offset = back w64 c.from.result (omega arith) ∙ c.from.ensures ∙ back w32 row.offset (omega arith) in
    let s : to_z w64 (of_z w64 row.seconds) ≡ row.seconds = back w64 row.seconds (omega arith) in
    let k : c.put_signed-seconds_at.result - 1 ≤ length c.args.out.now = omega (arith, c.put_signed-seconds_at.ensures.value, c.put_signed-offset_at.ensures.value, c.requires.1) in
    (omega (arith, seconds_at row _ _ c.args.end _ _ o s c.requires.0 c.put_signed-offset_at.ensures.value c.put_signed-seconds_at.ensures.value), search rules)

pub returns : goal.returns
returns c =
    let row = c.args.row in
    let o : to_z w64 (of_z w64 c.from.result) ≡ row.offset = back w64 c.from.result (omega arith) ∙ c.from.ensures ∙ back w32 row.offset (omega arith) in
    let s : to_z w64 (of_z w64 row.seconds) ≡ row.seconds = back w64 row.seconds (omega arith) in
    row_put row c.args.out.now _ _ _ _ _ _ _ _ c.args.end _ _ s o c.requires.0 c.requires.1
    c.put_byte.ensures c.put_signed-offset_at.ensures.value c.put_signed-offset_at.ensures.room_after c.put_byte-2.ensures
    c.put_signed-seconds_at.ensures.value c.put_signed-seconds_at.ensures.room_after c.put_byte-3.ensures c.put_decimal.ensures.room_after
