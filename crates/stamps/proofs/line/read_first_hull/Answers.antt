-- `stamps::line::read_first_hull` meets its contract: a text that opens with `hull` and a tab, or otherwise.
use mathlib.Core.Path.{sym, ◌∙◌}
use mathlib.Core.List.{[], ◌∷◌, ◌++◌}
use Rattle.text.specs.Lines.{tab}
use Rattle.text.specs.Quote.{bytes}
use Rattle.relative.specs.Relative.{max_pairs}
use Rattle.stamps.proofs.Reading.{opens_is}
use Rattle.stamps.proofs.FirstHulls.{first_hull_only, first_no_hull}
use Rattle.stamps.proofs.line.read_first_hull.Goals as goal

pub returns-then-starts_with : goal.returns-then-starts_with
returns-then-starts_with c =
    let s = c.args.s.now in
    first_hull_only max_pairs s _ (sym (opens_is (bytes "hull" ++ tab ∷ []) s) ∙ sym c.starts_with.ensures.value ∙ c.if-starts_with.true) c.first_hull.ensures

pub returns-else-starts_with : goal.returns-else-starts_with
returns-else-starts_with c =
    let s = c.args.s.now in
    first_no_hull max_pairs s (sym (opens_is (bytes "hull" ++ tab ∷ []) s) ∙ sym c.starts_with.ensures.value ∙ c.if-starts_with.false)
