-- `compact::lines::copy_lines` meets its contract. The invariant: the lines from number k down, put behind the bytes that are written, give the
-- answer.
use mathlib.Core.Path.{◌≡◌, refl, ap, ◌∙◌}
use mathlib.Core.List.{List}
use Prim.Native.Nat.{ℕ}
use native.Mathlib.Omega.{arith}
use lib.ListN.{drop}
use Rattle.text.specs.Lines.{newline}
use Rattle.text.specs.Places.{before}
use Rattle.compact.specs.Held.{line_at}
use Rattle.compact.proofs.Copying.{copying_fits, length-same, copying_again, copying_end}
use Rattle.compact.proofs.lines.copy_lines.Goals as goal

-- the line at a place
line : (book : List ℕ) (place at : ℕ) {text l : List ℕ} → at ≡ place → text ≡ drop at book → l ≡ before newline text → l ≡ line_at book place
line book place at at_is text_is e = e ∙ ap (before newline) (text_is ∙ ap (λ (n : ℕ). drop n book) at_is)

pub put_part-written-requires : goal.put_part-written-requires
put_part-written-requires c = omega (arith, copying_fits c.loop-k.invariant _ c.loop-k-test.true (line c.args.book.now _ _ c.from.ensures c.from-in-loop-k.ensures c.before-line.ensures))

pub put_part-written-requires-in-loop-k : goal.put_part-written-requires-in-loop-k
put_part-written-requires-in-loop-k c =
    let j = c.loop-k.invariant in
    let some = c.loop-k-test.true in
    let is = line c.args.book.now _ _ c.from.ensures c.from-in-loop-k.ensures c.before-line.ensures in
    let put = c.put_part-written.ensures in
    omega (arith, copying_fits j _ some is, put.value, length-same j _ some is _ _ _ put.value put.room_after refl)

pub loop-k-preserved : goal.loop-k-preserved
loop-k-preserved c =
    let put = c.put_part-written.ensures in
    let put-newline = c.put_part-written-in-loop-k.ensures in
    copying_again c.loop-k.invariant _ c.loop-k-test.true (line c.args.book.now _ _ c.from.ensures c.from-in-loop-k.ensures c.before-line.ensures) _ _ _ put.value put.room_after put-newline.room_after _ put-newline.value

pub returns : goal.returns
returns c = copying_end c.loop-k.invariant (omega (arith, c.loop-k-test.false)) c.requires
