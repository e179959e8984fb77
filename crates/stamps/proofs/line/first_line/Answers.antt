-- `stamps::line::first_line` meets its contract: a text that opens with `hull` and a tab, with `since` and a tab, or otherwise.
use mathlib.Core.Path.{sym, ◌∙◌}
use mathlib.Core.List.{[], ◌∷◌, ◌++◌}
use Rattle.text.specs.Lines.{tab}
use Rattle.text.specs.Quote.{bytes}
use Rattle.relative.specs.Relative.{max_pairs}
use Rattle.stamps.proofs.Reading.{opens_is, first_hull, first_since, first_is_bad}
use Rattle.stamps.proofs.line.first_line.Goals as goal

-- a line of `hull`
pub returns-then-starts_with : goal.returns-then-starts_with
returns-then-starts_with c =
    let s = c.args.s.now in
    first_hull max_pairs s _ (sym (opens_is (bytes "hull" ++ tab ∷ []) s) ∙ sym c.starts_with.ensures.value ∙ c.if-starts_with.true) c.first_hull.ensures

-- a line of `since`
pub returns-then-starts_with-2 : goal.returns-then-starts_with-2
returns-then-starts_with-2 c =
    let s = c.args.s.now in
    first_since max_pairs s _ (sym (opens_is (bytes "since" ++ tab ∷ []) s) ∙ sym c.starts_with-else-starts_with.ensures.value ∙ c.if-starts_with-2.true) c.first_since.ensures

-- any other
pub returns-else-starts_with-2 : goal.returns-else-starts_with-2
returns-else-starts_with-2 c =
    let s = c.args.s.now in
    first_is_bad max_pairs s (sym (opens_is (bytes "hull" ++ tab ∷ []) s) ∙ sym c.starts_with.ensures.value ∙ c.if-starts_with.false)
    (sym (opens_is (bytes "since" ++ tab ∷ []) s) ∙ sym c.starts_with-else-starts_with.ensures.value ∙ c.if-starts_with-2.false)
