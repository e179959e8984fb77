-- `stamps::book::next_line` meets its contract: no good line, one without its newline, and one by its kind.
use Rattle.std.specs.Prelude.{Some, None}
use mathlib.Core.Path.{sym, ap, ◌∙◌}
use mathlib.Core.Bool.{false}
use mir.Syntax.{w64}
use mir.Val.{SFits}
use mir.ValLaws.{to_z-of_z}
use Prim.Native.Nat.{◌+◌}
use borrow.Author.Rules.{rules}
use Rattle.relative.specs.Relative.{max_pairs}
use Rattle.stamps.specs.Listing.{is_at_or_after}
use Rattle.stamps.specs.Held.{next_at}
use Rattle.stamps.specs.declared.line.Line.{Line}
use Rattle.stamps.proofs.Books.{next_good, next_open}
use Rattle.stamps.proofs.book.next_line.Goals as goal

pub returns-then-s-first : goal.returns-then-s-first
returns-then-s-first c = next_open max_pairs c.args.s.now c.args.cut_off c.in_ok-first.first (sym c.first_line.ensures ∙ c.in_ok-first.was) c.if-s-first.true

-- a hull
pub returns-in-Hull : goal.returns-in-Hull
returns-in-Hull c =
    let seconds : SFits w64 c.in-Hull.hull.time.seconds = search rules in
    let n = c.in_ok-first.first.length + 1 in
    let listed = c.is_at_or_after.ensures ∙ ap (is_at_or_after c.args.cut_off) (to_z-of_z w64 _ seconds) in
    (λ i. Some (record { size = n; listed = listed i; cut_off = None }))
    ∙ ap (λ (l : Line). Some (next_at n c.args.cut_off (Some l))) (sym c.in-Hull.is)
    ∙ next_good max_pairs c.args.s.now c.args.cut_off c.in_ok-first.first (sym c.first_line.ensures ∙ c.in_ok-first.was) c.if-s-first.false

-- a cut-off
pub returns-in-Since : goal.returns-in-Since
returns-in-Since c =
    let seconds : SFits w64 c.in-Since.since.cut_off.seconds = search rules in
    let n = c.in_ok-first.first.length + 1 in
    (λ i. Some (record { size = n; listed = false; cut_off = Some (to_z-of_z w64 _ seconds i) }))
    ∙ ap (λ (l : Line). Some (next_at n c.args.cut_off (Some l))) (sym c.in-Since.is)
    ∙ next_good max_pairs c.args.s.now c.args.cut_off c.in_ok-first.first (sym c.first_line.ensures ∙ c.in_ok-first.was) c.if-s-first.false
