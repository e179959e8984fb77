-- `lines::layout::parse_line` meets its contract: a line that is too long, one with no tab, one or two, one whose form or current time
-- is none, and one that asks.
use Rattle.std.specs.Prelude.{is_some}
use mathlib.Core.Path.{◌≡◌, sym, ap, ◌∙◌}
use mathlib.Core.Bool.{true}
use mathlib.Core.List.{List}
use Prim.Native.Nat.{ℕ, ◌-◌}
use lib.ListN.{length}
use Rattle.text.specs.Places.{has}
use Rattle.text.specs.Lines.{tab, field, rest}
use Rattle.lines.specs.Layout.{form_named, current_of}
use Rattle.lines.proofs.Layouts.{line_of_of_length, line_of_no_tab, line_of-one-tab, line_of-two-tabs, line_of_no_form, line_of_no_current, line_of_value, text_place_is}
use Rattle.lines.proofs.layout.parse_line.Goals as goal

pub returns-then-line-gt-MAX_LINE : goal.returns-then-line-gt-MAX_LINE
returns-then-line-gt-MAX_LINE c = line_of_of_length c.args.line.now c.if-line-gt-MAX_LINE.true

-- no tab
pub returns-in_err-form : goal.returns-in_err-form
returns-in_err-form c =
    c.from_residual.ensures ∙ line_of_no_tab _ (sym c.cut_at_tab.ensures.found ∙ ap is_some c.in_err-form.was)

-- one
pub returns-in_err-seconds : goal.returns-in_err-seconds
returns-in_err-seconds c =
    let none = sym c.cut_at_tab-2.ensures.found ∙ ap is_some c.in_err-seconds.was in
    c.from_residual-in_err-seconds.ensures ∙ line_of-one-tab _ (rw c.in_ok-form.ensures.parts.1 at none)

-- two
pub returns-in_err-offset : goal.returns-in_err-offset
returns-in_err-offset c =
    let none = sym c.cut_at_tab-3.ensures.found ∙ ap is_some c.in_err-offset.was in
    let two = c.in_ok-seconds.ensures.parts.1 ∙ ap rest c.in_ok-form.ensures.parts.1 in
    c.from_residual-in_err-offset.ensures ∙ line_of-two-tabs _ (rw two at none)

-- three, and no form
pub returns-in_err-form_of : goal.returns-in_err-form_of
returns-in_err-form_of c =
    c.from_residual-in_err-form_of.ensures ∙ line_of_no_form _ (sym (c.form_of.ensures ∙ ap form_named c.in_ok-form.ensures.parts.0) ∙ c.in_err-form_of.was)

-- no current time
pub returns-in_err-current_of : goal.returns-in_err-current_of
returns-in_err-current_of c =
    let one = c.in_ok-form.ensures.parts in
    let two = c.in_ok-seconds.ensures.parts in
    let three = c.in_ok-offset.ensures.parts in
    let f = sym (c.form_of.ensures ∙ ap form_named one.0) ∙ c.in_ok-form_of.was in
    let g = two.0 ∙ ap field one.1 in
    let h = three.0 ∙ ap field (two.1 ∙ ap rest one.1) in
    c.from_residual-in_err-current_of.ensures ∙ line_of_no_current _ _ f (sym (c.current_of.ensures ∙ (λ i. current_of (g i) (h i))) ∙ c.in_err-current_of.was)

-- a request
pub returns : goal.returns
returns c =
    let line = c.args.line.now in
    let one = c.in_ok-form.ensures.parts in
    let two = c.in_ok-seconds.ensures.parts in
    let three = c.in_ok-offset.ensures.parts in
    let f = sym (c.form_of.ensures ∙ ap form_named one.0) ∙ c.in_ok-form_of.was in
    let g = two.0 ∙ ap field one.1 in
    let r = two.1 ∙ ap rest one.1 in
    let h = three.0 ∙ ap field r in
    let k = sym (c.current_of.ensures ∙ (λ i. current_of (g i) (h i))) ∙ c.in_ok-current_of.was in
    let t = three.1 ∙ ap rest r in
    let a : has tab line ≡ true = sym c.in_ok-form.ensures.found in
    let b : has tab (rest line) ≡ true = sym (c.in_ok-seconds.ensures.found ∙ ap (has tab) one.1) in
    let d : has tab (rest (rest line)) ≡ true = sym (c.in_ok-offset.ensures.found ∙ ap (has tab) r) in
    line_of_value line c.if-line-gt-MAX_LINE.false a b d f k (ap (λ (v : List ℕ). length line - length v) t ∙ text_place_is line c.if-line-gt-MAX_LINE.false a b d)
