-- `iso::offset::seconds` meets its contract: no sum of a field's hours and minutes overflows.
use Rattle.std.specs.Prelude.{Some}
use mathlib.Core.Path.{ap, ◌∙◌}
use mir.Syntax.{w64}
use Rattle.ints.proofs.Machine.{In_of_At, known, times, add, read}
use Rattle.iso.proofs.Offsets.{In_of_Within, offset_seconds-not-hours, offset_seconds-not-minutes, offset_seconds-value}
use Rattle.iso.proofs.offset.seconds.Goals as goal

-- no hours
pub returns-in_err-h-clause-is : goal.returns-in_err-h-clause-is
returns-in_err-h-clause-is c =
    c.from_residual.ensures ∙ offset_seconds-not-hours _ c.in_err-h.was

-- no minutes
pub returns-in_err-m-clause-is : goal.returns-in_err-m-clause-is
returns-in_err-m-clause-is c =
    c.from_residual-in_err-m.ensures ∙ offset_seconds-not-minutes c.in_ok-h.was c.in_err-m.was

-- both
pub returns : goal.returns
returns c =
    let h = known w64 tt (In_of_Within {k = 99} c.in_ok-h.was c.requires.0) in
    let m = known w64 tt (In_of_Within {k = 99} c.in_ok-m.was c.requires.1) in
    let z = read w64 tt (add (read w64 tt (times 3600 h)) (read w64 tt (times 60 m))) in record {
      is = ap Some z.is ∙ offset_seconds-value c.in_ok-h.was c.in_ok-m.was;
      range = In_of_At z;
    }
