-- `iso::clock::clock` meets its contract: three numbers, each up to its limit, and no sum of theirs overflows.
use mathlib.Core.Path.{sym, ◌∙◌}
use Prim.Native.Nat.{◌≤◌}
use native.Mathlib.Omega.{arith}
use Rattle.text.proofs.Numbers.{fit_value-le}
use Rattle.iso.proofs.Times.{clock_value, clock-not-hour, clock-not-minute, clock-not-second}
use Rattle.iso.proofs.clock.clock.Goals as goal

-- no hour
pub returns-in_err-hour-clause-is : goal.returns-in_err-hour-clause-is
returns-in_err-hour-clause-is c =
    c.from_residual.ensures ∙ clock-not-hour _ _ _ (sym c.unsigned_number.ensures ∙ c.in_err-hour.was)

-- no minute
pub returns-in_err-minute-clause-is : goal.returns-in_err-minute-clause-is
returns-in_err-minute-clause-is c =
    c.from_residual-in_err-minute.ensures ∙ clock-not-minute _ _ _ (sym c.unsigned_number.ensures ∙ c.in_ok-hour.was) (sym c.unsigned_number-2.ensures ∙ c.in_err-minute.was)

-- no second
pub returns-in_err-second-clause-is : goal.returns-in_err-second-clause-is
returns-in_err-second-clause-is c =
    c.from_residual-in_err-second.ensures
    ∙ clock-not-second _ _ _ (sym c.unsigned_number.ensures ∙ c.in_ok-hour.was) (sym c.unsigned_number-2.ensures ∙ c.in_ok-minute.was) (sym c.unsigned_number-3.ensures ∙ c.in_err-second.was)

pub overflow_mul-result : goal.overflow_mul-result
overflow_mul-result c =
    let h : c.in_ok-hour.hour ≤ 23 = fit_value-le 23 _ (sym c.unsigned_number.ensures ∙ c.in_ok-hour.was) in
    record { fits = omega arith }

pub overflow_mul-result-2 : goal.overflow_mul-result-2
overflow_mul-result-2 c =
    let m : c.in_ok-minute.minute ≤ 59 = fit_value-le 59 _ (sym c.unsigned_number-2.ensures ∙ c.in_ok-minute.was) in
    record { fits = omega arith }

pub overflow_add-result : goal.overflow_add-result
overflow_add-result c =
    let h : c.in_ok-hour.hour ≤ 23 = fit_value-le 23 _ (sym c.unsigned_number.ensures ∙ c.in_ok-hour.was) in
    let m : c.in_ok-minute.minute ≤ 59 = fit_value-le 59 _ (sym c.unsigned_number-2.ensures ∙ c.in_ok-minute.was) in
    record { fits = omega arith }

pub overflow_add-result-2 : goal.overflow_add-result-2
overflow_add-result-2 c =
    let h : c.in_ok-hour.hour ≤ 23 = fit_value-le 23 _ (sym c.unsigned_number.ensures ∙ c.in_ok-hour.was) in
    let m : c.in_ok-minute.minute ≤ 59 = fit_value-le 59 _ (sym c.unsigned_number-2.ensures ∙ c.in_ok-minute.was) in
    let s : c.in_ok-second.second ≤ 59 = fit_value-le 59 _ (sym c.unsigned_number-3.ensures ∙ c.in_ok-second.was) in
    record { fits = omega arith }

-- all three
pub returns : goal.returns
returns c =
    let x = sym c.unsigned_number.ensures ∙ c.in_ok-hour.was in
    let y = sym c.unsigned_number-2.ensures ∙ c.in_ok-minute.was in
    let z = sym c.unsigned_number-3.ensures ∙ c.in_ok-second.was in
    let h : c.in_ok-hour.hour ≤ 23 = fit_value-le 23 _ x in
    let m : c.in_ok-minute.minute ≤ 59 = fit_value-le 59 _ y in
    let s : c.in_ok-second.second ≤ 59 = fit_value-le 59 _ z in record {
      is = clock_value _ _ _ x y z;
      range = omega arith;
    }
