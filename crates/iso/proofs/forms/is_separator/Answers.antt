-- `iso::forms::is_separator` meets its contract: it computes as its definition does.
use mathlib.Core.Path.{refl}
use Rattle.iso.specs.Forms.{is_separator}
use Rattle.iso.proofs.forms.is_separator.Goals as goal

pub returns : goal.returns
unfolding is_separator
returns c = refl
