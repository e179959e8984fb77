-- `relative::steps::months_earlier` meets its contract. If there is no such month, or the landing would be below 0, it is below
-- the range.
use Rattle.std.specs.Prelude.{None, Some}
use mathlib.Core.Path.{sym}
use Prim.Native.Nat.{◌+◌, ◌-◌, ◌*◌}
use native.Mathlib.Omega.{arith}
use Rattle.relative.proofs.Landing.{landed_of_month-lt, month-lt, IsBack, IsBack_of_back_of, months_earlier_of_le, since1970_local, landed_local-lt}
use Rattle.relative.proofs.steps.months_earlier.Goals as goal

-- more months than 64 bits hold
pub returns-in_err-back-clause-is : goal.returns-in_err-back-clause-is
returns-in_err-back-clause-is c =
    let a = c.args in
    rw c.from_residual.ensures (sym (landed_of_month-lt a.from (a.count * a.size) _ c.requires (month-lt a.from (a.count * a.size) c.requires (omega (arith, c.in_err-back.ensures)))))

-- no such month
pub returns-in_err-local-clause-is : goal.returns-in_err-local-clause-is
returns-in_err-local-clause-is c =
    let a = c.args in
    let l : IsBack (a.from.seconds + a.from.offset - 93600) (a.count * a.size) None = IsBack_of_back_of _ _ _ (rw c.in_ok-back.ensures.1 at c.in_err-local.ensures.is) in
    rw c.from_residual-in_err-local.ensures (sym (landed_of_month-lt a.from (a.count * a.size) _ c.requires l))

-- a landing below 0
pub returns-in_err-seconds-clause-is : goal.returns-in_err-seconds-clause-is
returns-in_err-seconds-clause-is c =
    let a = c.args in
    let l : IsBack (a.from.seconds + a.from.offset - 93600) (a.count * a.size) (Some c.in_ok-local.local) = IsBack_of_back_of _ _ _ (rw c.in_ok-back.ensures.1 at c.in_ok-local.ensures.is) in
    rw (c.from_residual-in_err-seconds.ensures, months_earlier_of_le a.from (a.count * a.size) c.requires l.0, ← l.1) (sym (landed_local-lt _ _ _ (omega (arith, c.in_err-seconds.ensures)) c.requires.east))

pub returns-clause-is : goal.returns-clause-is
returns-clause-is c =
    let a = c.args in
    let l : IsBack (a.from.seconds + a.from.offset - 93600) (a.count * a.size) (Some c.in_ok-local.local) = IsBack_of_back_of _ _ _ (rw c.in_ok-back.ensures.1 at c.in_ok-local.ensures.is) in
    rw (months_earlier_of_le a.from (a.count * a.size) c.requires l.0, ← l.1, ← since1970_local _ _ c.in_ok-seconds.ensures.0) (rw c.in_ok-seconds.ensures.1 at c.if_in_range.ensures.is)
