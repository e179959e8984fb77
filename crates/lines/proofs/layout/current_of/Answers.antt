-- `lines::layout::current_of` meets its contract: an offset that 32 bits hold stays what it is.
use Rattle.std.specs.Prelude.{Some}
use mathlib.Core.Bool.{◌&&◌}
use mathlib.Core.Path.{sym, ◌∙◌}
use native.Mathlib.Omega.{arith}
use mir.Syntax.{w32, w64}
use Rattle.ints.proofs.Machine.{known, read, fits, back}
use Rattle.time.specs.Answers.{time_at}
use Rattle.lines.specs.Layout.{current_of}
use Rattle.lines.proofs.Layouts.{In32_of_fit_signed}
use Rattle.lines.proofs.layout.current_of.Goals as goal

-- both are `-`
pub returns-then-same : goal.returns-then-same
unfolding current_of
returns-then-same c = rw (sym (λ i. c.same.ensures i && c.same-2.ensures i) ∙ c.if-same.true)

-- the seconds are no number
pub returns-in_err-z : goal.returns-in_err-z
unfolding current_of
returns-in_err-z c =
    c.from_residual.ensures ∙ rw (sym (λ i. c.same.ensures i && c.same-2.ensures i) ∙ c.if-same.false, sym c.signed_number.ensures ∙ c.in_err-z.was)

-- the offset is no number
pub returns-in_err-o : goal.returns-in_err-o
unfolding current_of
returns-in_err-o c =
    c.from_residual-in_err-o.ensures
    ∙ rw (sym (λ i. c.same.ensures i && c.same-2.ensures i) ∙ c.if-same.false, sym c.signed_number.ensures ∙ c.in_ok-z.was, sym c.signed_number-2.ensures ∙ c.in_err-o.was)

pub overflow_cast-o : goal.overflow_cast-o
overflow_cast-o c =
    fits w32 tt (known w64 tt (In32_of_fit_signed _ (sym c.signed_number-2.ensures ∙ c.in_ok-o.was)))

-- both are numbers
pub returns : goal.returns
unfolding current_of
returns c =
    let o = sym c.signed_number-2.ensures ∙ c.in_ok-o.was in
    rw (sym (λ i. c.same.ensures i && c.same-2.ensures i) ∙ c.if-same.false, sym c.signed_number.ensures ∙ c.in_ok-z.was, o)
    (λ i. Some (Some ((c.new.ensures ∙ λ j. time_at (back w64 c.in_ok-z.z (omega arith) j) ((read w32 tt (known w64 tt (In32_of_fit_signed _ o))).is j)) i)))
