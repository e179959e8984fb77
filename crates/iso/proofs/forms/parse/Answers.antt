-- `iso::forms::parse` meets its contract.
use mathlib.Core.Path.{◌≡◌, ◌∙◌}
use borrow.Author.Rules.{rules}
use Rattle.iso.specs.Forms.{compact, flexible, first_of, form_of}
use Rattle.iso.proofs.FormFields.{first_of_or_else, first_of_first_of}
use Rattle.iso.proofs.forms.parse.Goals as goal

pub returns-clause-is : goal.returns-clause-is
unfolding form_of
returns-clause-is c =
    let s = c.args.s.now in
    let d = c.parse_iso8601_dots.ensures.is in
    let e : c.or_else.result ≡ first_of c.parse_iso8601_dots.result (compact s) = first_of_or_else c.parse_iso8601_dots.result (compact s) c.or_else.ensures (λ n. search (rules, n)) in
    let f : c.or_else-2.result ≡ first_of c.or_else.result (flexible s) = first_of_or_else c.or_else.result (flexible s) c.or_else-2.ensures (λ n. search (rules, n)) in
    f ∙ rw (e, d) (first_of_first_of _ _ _)
