-- `iso::moment` meets its contract: the instant is far within 64 bits.
use Rattle.std.specs.Prelude.{None, Ok, Some}
use mathlib.Core.Path.{◌≡◌, sym, ap, ◌∙◌}
use Prim.Native.Nat.{◌+◌, ◌*◌, ◌≤◌, ◌<◌}
use native.Mathlib.Omega.{arith}
use borrow.Author.Rules.{rules}
use lib.IntN.{pos, negsuc, ◌-ℤ◌}
use mir.Syntax.{w32, w64}
use mir.Val.{to_z, of_z}
use Rattle.std.specs.Result.{result_ok}
use Rattle.ints.proofs.Machine.{At, cast, lit, known, sub, read}
use Rattle.calendar.proofs.Dates.{lt_of_Below}
use Rattle.time.specs.Answers.{time_at}
use Rattle.time.specs.Range.{seconds_in_range, since1970}
use Rattle.iso.proofs.Instants.{moment_of_no_day, moment_of-out, moment_of_in}
use Rattle.iso.proofs.moment.Goals as goal
use Rattle.iso.proofs.moment.Goals.{In_ok-day}

day_is : (c : In_ok-day) → c.args.d ≡ Some c.in_ok-day.day
day_is c = c.ok_or.ensures.ok_part ∙ ap result_ok c.in_ok-day.was

-- the instant, by the clock of the offset
z-at : (c : In_ok-day) → At (negsuc 377737101539) (pos 253402663139) (since1970 (c.in_ok-day.day * 86400 + c.args.second) -ℤ c.args.offset) (to_z w64 (of_z w64 (to_z w64 (c.in_ok-day.day * 86400 + c.args.second) -ℤ pos 377736739200)) -ℤ to_z w64 (of_z w64 c.args.offset))
z-at c =
    let d : c.in_ok-day.day < 7304850 = lt_of_Below (day_is c) c.requires.day in
    let n : c.in_ok-day.day * 86400 + c.args.second ≤ 631139039999 = omega arith in
    sub (read w64 tt (sub (cast w64 _ tt n) (lit (pos 377736739200)))) (known w64 tt c.requires.offset)

-- the date does not exist
pub returns-in_err-day : goal.returns-in_err-day
returns-in_err-day c =
    let e : c.args.d ≡ None = c.ok_or.ensures.ok_part ∙ ap result_ok c.in_err-day.was in
    let v = rw e at c.in_err-day.ensures.value in
    rw (← moment_of_no_day c.args.second c.args.offset e) (search rules)

-- in range
pub returns-then-seconds_in_range : goal.returns-then-seconds_in_range
returns-then-seconds_in_range c =
    let q = (goal.at.returns-then-seconds_in_range c).In_ok-day in
    let z = read w64 tt (z-at q) in
    let o = read w32 tt (known w64 tt c.requires.offset) in
    (λ i. Ok (c.new.ensures i)) ∙ (λ i. Ok (time_at (z.is i) (o.is i)))
    ∙ moment_of_in _ _ (day_is q) (sym (c.seconds_in_range.ensures ∙ ap seconds_in_range z.is) ∙ c.if-seconds_in_range.true)

-- out of it
pub returns-else-seconds_in_range : goal.returns-else-seconds_in_range
returns-else-seconds_in_range c =
    let q = (goal.at.returns-else-seconds_in_range c).In_ok-day in
    let z = read w64 tt (z-at q) in
    moment_of-out _ _ (day_is q) (sym (c.seconds_in_range.ensures ∙ ap seconds_in_range z.is) ∙ c.if-seconds_in_range.false)
