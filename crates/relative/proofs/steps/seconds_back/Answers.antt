-- `relative::steps::seconds_back` meets its contract: where the difference would be below 0, the landing is below the range.
use mathlib.Core.Path.{sym}
use Prim.Native.Nat.{◌*◌, ◌≤◌}
use native.Mathlib.Omega.{arith}
use Rattle.time.proofs.Ranges.{since1970-sub}
use Rattle.relative.proofs.Landing.{seconds_far}
use Rattle.relative.proofs.steps.seconds_back.Goals as goal

-- a product of more than 64 bits
pub returns-in_err-back-clause-is : goal.returns-in_err-back-clause-is
returns-in_err-back-clause-is c =
    let a = c.args in
    rw c.from_residual.ensures (sym (seconds_far a.from.seconds (a.count * a.size) _ (omega (arith, c.in_err-back.ensures, c.requires.late))))

-- a difference below 0
pub returns-in_err-seconds-clause-is : goal.returns-in_err-seconds-clause-is
returns-in_err-seconds-clause-is c =
    let a = c.args in
    rw c.from_residual-in_err-seconds.ensures (sym (seconds_far a.from.seconds (a.count * a.size) _ (omega (arith, c.in_ok-back.ensures.1, c.in_err-seconds.ensures))))

pub returns-clause-is : goal.returns-clause-is
returns-clause-is c =
    let a = c.args in
    let le : a.count * a.size ≤ a.from.seconds = omega (arith, c.in_ok-back.ensures.1, c.in_ok-seconds.ensures.0) in
    rw (← since1970-sub _ _ le) (rw (c.in_ok-seconds.ensures.1, c.in_ok-back.ensures.1) at c.if_in_range.ensures.is)
