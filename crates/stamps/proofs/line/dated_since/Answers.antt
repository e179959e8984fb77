-- `stamps::line::dated_since` meets its contract: seconds that no tab follows, an offset that is not the last field, and numbers
-- that may be numbers of a current time.
use mathlib.Core.Path.{sym, ap, ◌∙◌}
use Prim.Native.Nat.{◌+◌, ◌^◌}
use native.Mathlib.Omega.{arith}
use Rattle.text.specs.Lines.{tab}
use Rattle.text.specs.Number.{fit_signed}
use Rattle.stamps.specs.Held.{first_at}
use Rattle.stamps.proofs.Fields.{opens_with-drop, ends_bad}
use Rattle.stamps.proofs.SinceLines.{fit_signed-fit_signed, seconds_no_tab, offset-not-last, since_ends}
use Rattle.stamps.proofs.line.dated_since.Goals as goal

-- seconds that no tab follows
pub returns-then-not-is_at : goal.returns-then-not-is_at
returns-then-not-is_at c =
    let s = c.args.s.now in
    let t = opens_with-drop tab s c.printed_at-seconds.result.end ∙ sym c.is_at.ensures ∙ c.if-not-is_at.true in
    ends_bad s (c.args.text_end + 1) (seconds_no_tab _ _ s _ _ c.printed_at-seconds.ensures t)

-- an offset that is not the rest of the line
pub returns-then-not-ends_at : goal.returns-then-not-ends_at
returns-then-not-ends_at c =
    let s = c.args.s.now in
    let t = opens_with-drop tab s c.printed_at-seconds.result.end ∙ sym c.is_at.ensures ∙ c.if-not-is_at.false in
    ends_bad s (c.args.text_end + 1) (offset-not-last _ _ s _ _ c.printed_at-seconds.ensures t _ c.printed_at-offset.ensures (sym c.ends_at.ensures ∙ c.if-not-ends_at.true))

pub since_with-requires : goal.since_with-requires
since_with-requires c =
    let e = c.printed_at-offset.ensures.number_is in record {
      le_text_end = (c.requires.le_text_end.0, omega (arith, c.requires.le_text_end.1), ap (fit_signed (2 ^ 31)) e ∙ fit_signed-fit_signed (2 ^ 31) _ ∙ sym e);
    }

-- two numbers, and the line ends behind them: they are none of a current time, or they are
pub returns-in_err-line : goal.returns-in_err-line
returns-in_err-line c =
    let s = c.args.s.now in
    let t = opens_with-drop tab s c.printed_at-seconds.result.end ∙ sym c.is_at.ensures ∙ c.if-not-is_at.false in
    let ends = since_ends _ _ s _ _ c.printed_at-seconds.ensures t _ c.printed_at-offset.ensures (sym c.ends_at.ensures ∙ c.if-not-ends_at.false) _ c.since_with.ensures in
    rw c.from_residual.ensures (sym (ap (first_at c.printed_at-offset.result.end) c.in_err-line.was) ∙ ends)

pub returns : goal.returns
returns c =
    let s = c.args.s.now in
    let t = opens_with-drop tab s c.printed_at-seconds.result.end ∙ sym c.is_at.ensures ∙ c.if-not-is_at.false in
    let ends = since_ends _ _ s _ _ c.printed_at-seconds.ensures t _ c.printed_at-offset.ensures (sym c.ends_at.ensures ∙ c.if-not-ends_at.false) _ c.since_with.ensures in
    sym (ap (first_at c.printed_at-offset.result.end) c.in_ok-line.was) ∙ ends
