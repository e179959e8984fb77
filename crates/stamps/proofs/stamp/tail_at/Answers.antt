-- `stamps::stamp::tail_at` meets its contract: its tests are those of the definition.
use Rattle.std.specs.Prelude.{Some}
use mathlib.Core.Path.{◌≡◌, sym, ap, ◌∙◌}
use mathlib.Core.Bool.{true, false}
use native.Mathlib.Omega.{arith}
use lib.Dec.{eqb}
use lib.ListN.{length, get_or}
use Rattle.stamps.specs.Held.{is_tail, tail_of, tail_with}
use Rattle.stamps.proofs.Tails.{tail_of_of_tests, tail_of_of_no_test, tail_of_of_length, ends_behind_tail}
use Rattle.stamps.proofs.stamp.tail_at.Goals as goal

-- fewer than six bytes
pub returns-in_default : goal.returns-in_default
returns-in_default c = sym (tail_of_of_length _ (omega (arith, c.in_default.len_below, ap length c.from.ensures)))

pub returns-then-space-is_sign : goal.returns-then-space-is_sign
unfolding is_tail
returns-then-space-is_sign c =
    let d = c.from.result.now in
    let ends = ends_behind_tail c.args.s.now d c.args.at c.from.ensures in
    let t : is_tail d ≡ true = rw (← ends, ← c.is_sign.ensures, ← c.are_digits.ensures, ← c.ends_at.ensures) c.if-space-is_sign.true in
    ap Some (c.with_sign.ensures ∙ ap (tail_with (eqb (get_or d 1 0) 45)) c.clock_size.ensures.0)
    ∙ sym (tail_of_of_tests d t) ∙ ap tail_of c.from.ensures

-- another byte among them, or behind them
pub returns-else-space-is_sign : goal.returns-else-space-is_sign
unfolding is_tail
returns-else-space-is_sign c =
    let d = c.from.result.now in
    let ends = ends_behind_tail c.args.s.now d c.args.at c.from.ensures in
    let t : is_tail d ≡ false = rw (← ends, ← c.is_sign.ensures, ← c.are_digits.ensures, ← c.ends_at.ensures) c.if-space-is_sign.false in
    sym (tail_of_of_no_test d t) ∙ ap tail_of c.from.ensures
