-- `stamps::line::keyed_hull` meets its contract: a key of the wrong size, one that no tab follows, and one that a tab follows.
use mathlib.Core.Path.{sym, ◌∙◌}
use native.Mathlib.Omega.{arith}
use Prim.Native.Nat.{◌+◌}
use Rattle.text.proofs.Runs.{le-past}
use Rattle.text.specs.Lines.{tab}
use Rattle.stamps.specs.Lines.{is_hex_digit}
use Rattle.stamps.proofs.Fields.{opens_with-drop, ends_bad, ends_behind}
use Rattle.stamps.proofs.HullLines.{key-not, key_no_tab, key_ends, key_stamped}
use Rattle.stamps.proofs.line.keyed_hull.Goals as goal

pub overflow_sub-key_end : goal.overflow_sub-key_end
overflow_sub-key_end c = omega (arith, le-past is_hex_digit c.args.s.now (c.args.path_end + 1), c.past-key_end.ensures)

-- a key of another size
pub returns-then-key_end-key_start-ne-KEY : goal.returns-then-key_end-key_start-ne-KEY
returns-then-key_end-key_start-ne-KEY c = ends_bad c.args.s.now (c.args.path_end + 1) (key-not _ _ _ c.past-key_end.ensures _ c.if-key_end-key_start-ne-KEY.true)

-- a key that a tab follows: the line goes on there
pub returns-then-is_at : goal.returns-then-is_at
returns-then-is_at c =
    let s = c.args.s.now in
    let o = opens_with-drop tab s c.past-key_end.result ∙ sym c.is_at.ensures ∙ c.if-is_at.true in
    ends_behind (key_ends s _ _ c.past-key_end.ensures o) (key_stamped s _ _ c.past-key_end.ensures o _ c.requires.2 c.if-key_end-key_start-ne-KEY.false) c.stamped_hull.ensures

-- a key that no tab follows
pub returns-else-is_at : goal.returns-else-is_at
returns-else-is_at c =
    let s = c.args.s.now in
    let o = opens_with-drop tab s c.past-key_end.result ∙ sym c.is_at.ensures ∙ c.if-is_at.false in
    ends_bad c.args.s.now (c.args.path_end + 1) (key_no_tab s _ _ c.past-key_end.ensures _ o)
