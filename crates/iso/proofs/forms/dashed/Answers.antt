-- `iso::forms::dashed` meets its contract.
use Rattle.text.proofs.Lists.{take-length-sub-drop}
use Rattle.iso.proofs.FormFields.{dotted_yes}
use Rattle.iso.proofs.forms.dashed.Goals as goal

pub returns : goal.returns
returns c = record {
  is = rw (c.read_fields.ensures.is, c.dash-8.ensures, c.dash-7.ensures, c.dash-6.ensures, c.dash-5.ensures, c.dash-4.ensures, c.dash-3.ensures, c.dash-2.ensures, c.dash.ensures, take-length-sub-drop c.args.s.now 11)
      (dotted_yes c.args.s.now c.requires.bytes c.requires.form);
  range = c.read_fields.ensures.range;
}
