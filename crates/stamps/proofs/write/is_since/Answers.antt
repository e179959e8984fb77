-- `stamps::write::is_since` meets its contract: the scan stops before the end exactly if the text has a tab or a newline.
use Rattle.std.specs.Prelude.{Result, Ok, Err}
use Rattle.std.specs.Result.{is_ok}
use mathlib.Core.Path.{◌≡◌, refl, sym, ap, ◌∙◌}
use native.Mathlib.Omega.{arith}
use borrow.Author.Tests.{ne_eqb}
use Rattle.text.proofs.Runs.{past-le-length}
use Rattle.relative.specs.Relative.{max_pairs}
use Rattle.time.specs.declared.Refusal.{Refusal}
use Rattle.time.specs.declared.Time.{Time}
use Rattle.stamps.specs.Held.{is_text_byte}
use Rattle.stamps.specs.Writing.{is_read}
use Rattle.stamps.proofs.Writing.{is_since_of_lt, is_since_of_le}
use Rattle.stamps.proofs.write.is_since.Goals as goal

-- std's word for it
is_ok_is : (r : Result Time Refusal) → is_ok r ≡ is_read r
is_ok_is (Ok t) = refl
is_ok_is (Err e) = refl

pub returns-then-past-text : goal.returns-then-past-text
returns-then-past-text c =
    c.is_ok.ensures.value ∙ is_ok_is _ ∙ ap is_read c.parse_with.ensures
    ∙ sym (is_since_of_le max_pairs c.args.text.now c.args.current (omega (arith, c.if-past-text.true, c.past.ensures)))

pub returns-else-past-text : goal.returns-else-past-text
returns-else-past-text c =
    let text = c.args.text.now in
    ne_eqb _ _ c.if-past-text.false
    ∙ sym (is_since_of_lt max_pairs text c.args.current (omega (arith, c.if-past-text.false, c.past.ensures, past-le-length is_text_byte text 0 (omega arith))))
