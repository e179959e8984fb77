-- `stamps::line::first_since` meets its contract: a text that no tab follows, and one that a tab follows.
use mathlib.Core.Path.{sym, ◌∙◌}
use native.Mathlib.Omega.{arith}
use Rattle.text.proofs.Runs.{le-past}
use Rattle.text.specs.Lines.{tab}
use Rattle.stamps.specs.Held.{is_text_byte}
use Rattle.stamps.proofs.Fields.{opens_with-drop, lt-length_of_opens_with, ends_bad, ends_behind}
use Rattle.stamps.proofs.SinceLines.{since_no_tab, text_ends, since_dated}
use Rattle.stamps.proofs.line.first_since.Goals as goal

pub dated_since-requires : goal.dated_since-requires
dated_since-requires c =
    let s = c.args.s.now in
    let o = opens_with-drop tab s c.past-text_end.result ∙ sym c.is_at.ensures ∙ c.if-is_at.true in record {
      le_text_end = (omega (arith, le-past is_text_byte s 6, c.past-text_end.ensures), lt-length_of_opens_with tab s _ o);
    }

-- a text that a tab follows: the line goes on there
pub returns-then-is_at : goal.returns-then-is_at
returns-then-is_at c =
    let s = c.args.s.now in
    let o = opens_with-drop tab s c.past-text_end.result ∙ sym c.is_at.ensures ∙ c.if-is_at.true in
    ends_behind (text_ends s _ c.past-text_end.ensures o) (since_dated s _ c.past-text_end.ensures o _) c.dated_since.ensures

-- a text that no tab follows
pub returns-else-is_at : goal.returns-else-is_at
returns-else-is_at c =
    let s = c.args.s.now in
    let o = opens_with-drop tab s c.past-text_end.result ∙ sym c.is_at.ensures ∙ c.if-is_at.false in
    ends_bad c.args.s.now 6 (since_no_tab s _ c.past-text_end.ensures _ o)
