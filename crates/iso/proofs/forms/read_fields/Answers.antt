-- `iso::forms::read_fields` meets its contract: the five fields are tried in the order of `all_fields`.
use Rattle.std.specs.Prelude.{Some}
use mathlib.Core.Path.{sym, ◌∙◌, subst}
use mir.Syntax.{w64}
use native.Mathlib.Omega.{arith}
use borrow.Author.Rules.{rules}
use Rattle.ints.proofs.Machine.{In_of_At, known, back}
use Rattle.text.specs.Number.{AtMost}
use Rattle.iso.specs.Forms.{read_fields}
use Rattle.iso.specs.Parts.{int32}
use Rattle.iso.proofs.Offsets.{In_of_Within}
use Rattle.iso.proofs.FormFields.{all_fields-not-year, all_fields-not-month, all_fields-not-day, all_fields-not-time, all_fields-not-offset, all_fields-value, iso_time_parts, iso_offset_parts}
use Rattle.iso.proofs.forms.read_fields.Goals as goal

pub returns-in_err-year-clause-is : goal.returns-in_err-year-clause-is
unfolding read_fields int32
returns-in_err-year-clause-is c =
    c.from_residual.ensures
    ∙ all_fields-not-year _ _ _ _ _ (sym c.signed_number.ensures ∙ c.in_err-year.was)

pub returns-in_err-month-clause-is : goal.returns-in_err-month-clause-is
unfolding read_fields int32
returns-in_err-month-clause-is c =
    c.from_residual-in_err-month.ensures
    ∙ all_fields-not-month _ _ _ _ _ (sym c.signed_number.ensures ∙ c.in_ok-year.was) (sym c.signed_number-2.ensures ∙ c.in_err-month.was)

pub returns-in_err-day-clause-is : goal.returns-in_err-day-clause-is
unfolding read_fields int32
returns-in_err-day-clause-is c =
    c.from_residual-in_err-day.ensures
    ∙ all_fields-not-day _ _ _ _ _ (sym c.signed_number.ensures ∙ c.in_ok-year.was) (sym c.signed_number-2.ensures ∙ c.in_ok-month.was) (sym c.signed_number-3.ensures ∙ c.in_err-day.was)

pub returns-in_err-second-clause-is : goal.returns-in_err-second-clause-is
unfolding read_fields int32
returns-in_err-second-clause-is c =
    c.from_residual-in_err-second.ensures
    ∙ all_fields-not-time _ _ _ _ _ (sym c.signed_number.ensures ∙ c.in_ok-year.was) (sym c.signed_number-2.ensures ∙ c.in_ok-month.was) (sym c.signed_number-3.ensures ∙ c.in_ok-day.was) (iso_time_parts _ _ _ _ _ _ c.trimmed-r.ensures c.split_time_and_offset-i.ensures.0 c.before-2.ensures c.trimmed.ensures c.parse_time_component.ensures.is ∙ c.in_err-second.was)

pub returns-in_err-offset-clause-is : goal.returns-in_err-offset-clause-is
unfolding read_fields int32
returns-in_err-offset-clause-is c =
    c.from_residual-in_err-offset.ensures
    ∙ all_fields-not-offset _ _ _ _ _ (sym c.signed_number.ensures ∙ c.in_ok-year.was) (sym c.signed_number-2.ensures ∙ c.in_ok-month.was) (sym c.signed_number-3.ensures ∙ c.in_ok-day.was) (iso_time_parts _ _ _ _ _ _ c.trimmed-r.ensures c.split_time_and_offset-i.ensures.0 c.before-2.ensures c.trimmed.ensures c.parse_time_component.ensures.is ∙ c.in_ok-second.was) (iso_offset_parts _ _ _ _ _ c.trimmed-r.ensures c.split_time_and_offset-i.ensures.0 c.trimmed-2.ensures c.parse_flexible_offset.ensures.is ∙ c.in_err-offset.was)

-- all five
pub returns : goal.returns
unfolding read_fields int32
returns c =
    let y = back w64 _ (omega arith) in
    let m = back w64 _ (search rules) in
    let d = back w64 _ (omega arith) in
    let o = known w64 tt (In_of_Within {k = 362340} c.in_ok-offset.was c.parse_flexible_offset.ensures.range) in record {
      is = (λ i. Some (record { year = y i; month = m i; day = d i; second = c.in_ok-second.second; offset = o.is i }))
          ∙ all_fields-value _ _ _ _ _ (sym c.signed_number.ensures ∙ c.in_ok-year.was) (sym c.signed_number-2.ensures ∙ c.in_ok-month.was) (sym c.signed_number-3.ensures ∙ c.in_ok-day.was) (iso_time_parts _ _ _ _ _ _ c.trimmed-r.ensures c.split_time_and_offset-i.ensures.0 c.before-2.ensures c.trimmed.ensures c.parse_time_component.ensures.is ∙ c.in_ok-second.was) (iso_offset_parts _ _ _ _ _ c.trimmed-r.ensures c.split_time_and_offset-i.ensures.0 c.trimmed-2.ensures c.parse_flexible_offset.ensures.is ∙ c.in_ok-offset.was);
      range = (subst (AtMost 86399) c.in_ok-second.was c.parse_time_component.ensures.range, In_of_At o);
    }
