-- `iso::parse_git_date_format_with` meets its contract.
use mathlib.Core.Path.{◌≡◌, sym, ap, ◌∙◌}
use mir.Syntax.{w64}
use Rattle.std.specs.Prelude.{None, Some}
use borrow.Author.Rules.{rules}
use native.Mathlib.Omega.{arith}
use Rattle.std.specs.Result.{result_ok}
use Rattle.ints.proofs.Machine.{known, In_of_At, back}
use Rattle.iso.proofs.FormFields.{FieldsIn_of_Some}
use Rattle.iso.proofs.Instants.{zoned_parts, iso_of-not-ascii, iso_of-missing, iso_of_are}
use Rattle.iso.proofs.parse_git_date_format_with.Goals as goal

-- a byte of 128 or more
pub returns-then-not-is_ascii : goal.returns-then-not-is_ascii
returns-then-not-is_ascii c = iso_of-not-ascii _ (sym c.is_ascii.ensures ∙ c.if-not-is_ascii.true)

-- no form
pub returns-in_err-f : goal.returns-in_err-f
returns-in_err-f c =
    let e : c.parse.result ≡ None = c.ok_or.ensures.ok_part ∙ ap result_ok c.in_err-f.was in
    let v = rw e at c.in_err-f.ensures.value in
    rw (← iso_of-missing c.args.s.now c.trimmed.result.now (sym c.is_ascii.ensures ∙ c.if-not-is_ascii.false) c.trimmed.ensures (sym c.parse.ensures.is ∙ e)) (search rules)

pub moment-requires : goal.moment-requires
moment-requires c =
    let e : c.parse.result ≡ Some c.in_ok-f.f = c.ok_or.ensures.ok_part ∙ ap result_ok c.in_ok-f.was in
    let p = FieldsIn_of_Some e c.parse.ensures.range in record {
      day = c.date.ensures.range;
      second = p.0;
      offset = In_of_At (known w64 tt p.1);
    }

-- a form
pub returns : goal.returns
returns c =
    let e : c.parse.result ≡ Some c.in_ok-f.f = c.ok_or.ensures.ok_part ∙ ap result_ok c.in_ok-f.was in
    c.moment.ensures
    ∙ zoned_parts c.in_ok-f.f (back w64 _ (omega arith)) (back w64 _ (omega arith)) (back w64 _ (omega arith)) (back w64 _ (omega arith)) c.date.ensures.is
    ∙ iso_of_are _ _ (sym c.is_ascii.ensures ∙ c.if-not-is_ascii.false) c.trimmed.ensures (sym c.parse.ensures.is ∙ e)
