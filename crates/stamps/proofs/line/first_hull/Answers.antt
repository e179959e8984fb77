-- `stamps::line::first_hull` meets its contract: a path of the wrong size, one that no tab follows, and one that a tab follows.
use mathlib.Core.Path.{sym, ◌∙◌}
use native.Mathlib.Omega.{arith}
use Rattle.text.proofs.Runs.{le-past}
use Rattle.text.specs.Lines.{tab}
use Rattle.stamps.specs.Lines.{is_path_byte}
use Rattle.stamps.proofs.Fields.{opens_with-drop, lt-length_of_opens_with, ends_bad, ends_behind}
use Rattle.stamps.proofs.HullLines.{hull_no_path, hull_no_tab, path_ends, hull_keyed, is_path-part_from}
use Rattle.stamps.proofs.line.first_hull.Goals as goal

pub overflow_sub-path : goal.overflow_sub-path
overflow_sub-path c = omega (arith, le-past is_path_byte c.args.s.now 5, c.past-path_end.ensures)

-- a path that is empty or too long
pub returns-then-path : goal.returns-then-path
returns-then-path c = ends_bad c.args.s.now 5 (hull_no_path _ _ c.past-path_end.ensures c.if-path.true)

pub keyed_hull-requires : goal.keyed_hull-requires
keyed_hull-requires c =
    let s = c.args.s.now in
    let o = opens_with-drop tab s c.past-path_end.result ∙ sym c.is_at.ensures ∙ c.if-is_at.true in
    (omega (arith, le-past is_path_byte s 5, c.past-path_end.ensures), lt-length_of_opens_with tab s _ o, is_path-part_from s _ c.past-path_end.ensures o c.if-path.false)

-- a path that a tab follows: the line goes on there
pub returns-then-is_at : goal.returns-then-is_at
returns-then-is_at c =
    let s = c.args.s.now in
    let o = opens_with-drop tab s c.past-path_end.result ∙ sym c.is_at.ensures ∙ c.if-is_at.true in
    ends_behind (path_ends s _ c.past-path_end.ensures o) (hull_keyed s _ c.past-path_end.ensures o) c.keyed_hull.ensures

-- a path that no tab follows
pub returns-else-is_at : goal.returns-else-is_at
returns-else-is_at c =
    let s = c.args.s.now in
    let o = opens_with-drop tab s c.past-path_end.result ∙ sym c.is_at.ensures ∙ c.if-is_at.false in
    ends_bad c.args.s.now 5 (hull_no_tab s _ c.past-path_end.ensures o)
