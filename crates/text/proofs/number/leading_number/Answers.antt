-- `text::number::leading_number` meets its contract. The invariant: the value so far fits, and reading the remaining digits on
-- from it gives the answer. Once a digit has no room, no digit after it has, and the rest of the digits is passed.
use Rattle.std.specs.Prelude.{Err, Ok}
use mathlib.Core.Path.{◌≡◌, sym, ap, ◌∙◌}
use mathlib.Core.Bool.{true, cond}
use mathlib.Core.List.{List}
use Prim.Native.Nat.{ℕ, ◌≤◌, ◌<◌, ◌-◌, ◌+◌, ◌*◌}
use native.Mathlib.Omega.{arith}
use borrow.Author.Tests.{leb-true, leb-false}
use lib.Dec.{ltb}
use lib.ListN.{length, get_or, drop}
use Rattle.text.specs.Bytes.{is_digit}
use Rattle.text.specs.Places.{leading, past}
use Rattle.text.specs.Number.{digits_of, read_from, fitted}
use Rattle.text.proofs.Runs.{past_of-true, past_of-false, past_of-length-le, past_of-max, length-leading, leading_of_past, leading_of_true}
use Rattle.text.proofs.Numbers.{digit_range, read_from-cons, fitted-read_from_of_lt, fitted-digits_of_of_TooLarge, fitted-digits_of_of_length}
use Rattle.text.proofs.number.leading_number.Invariants.{On}
use Rattle.text.specs.declared.number.NumberError.TheVariants.{TooLarge, NoNumber}
use Rattle.text.proofs.number.leading_number.Goals as goal

module _ (s : List ℕ) (from limit v i : ℕ) (on : On s from limit v i) where
  -- with one digit more the answer is the same
  step : (d : ℕ) → i < length s → is_digit (get_or s i 0) ≡ true → d ≡ get_or s i 0 - 48 → On s from limit (10 * v + d) (i + 1)
  step d h e k = on ∙ ap (λ (t : List ℕ). fitted limit (read_from v t)) (leading_of_true is_digit s i h e) ∙ ap (fitted limit) (read_from-cons _ v _ d e k)

  -- if no digit is left, the value is the answer
  done : v ≤ limit → past is_digit s from ≡ i → past is_digit s i ≡ i → fitted limit (digits_of (leading is_digit (drop from s))) ≡ cond (ltb from i) (Ok v) (Err NoNumber)
  unfolding read_from
  done f p q =
      fitted-digits_of_of_length _ limit v from i f (length-leading is_digit s from ∙ p)
      (on ∙ ap (λ (t : List ℕ). fitted limit (read_from v t)) (leading_of_past is_digit s i q))

  -- a digit that has no room
  over : limit < v → fitted limit (digits_of (leading is_digit (drop from s))) ≡ (Err TooLarge)
  over h = fitted-digits_of_of_TooLarge _ limit (on ∙ fitted-read_from_of_lt _ limit v h)

pub overflow_sub-b : goal.overflow_sub-b
overflow_sub-b c = omega (arith, digit_range _ (sym c.is_digit.ensures ∙ c.if-not-is_digit.false))

pub has_room-requires : goal.has_room-requires
has_room-requires c = omega (arith, c.from-d.ensures, digit_range _ (sym c.is_digit.ensures ∙ c.if-not-is_digit.false))

pub loop-i-preserved : goal.loop-i-preserved
loop-i-preserved c =
    let a = c.args in (
      leb-true _ _ (sym c.has_room.ensures ∙ c.if-not-has_room.false),
      c.loop-i.invariant.1 ∙ past_of-true _ _ _ c.loop-i-test.true (sym c.is_digit.ensures ∙ c.if-not-is_digit.false),
      step a.s.now a.from _ _ _ c.loop-i.invariant.2 _ c.loop-i-test.true (sym c.is_digit.ensures ∙ c.if-not-is_digit.false) c.from-d.ensures,
    )

-- a digit that has no room: no digit after it has
pub returns-then-not-has_room : goal.returns-then-not-has_room
returns-then-not-has_room c =
    let a = c.args in
    let more = step a.s.now a.from a.limit c.loop-i.v c.loop-i.i c.loop-i.invariant.2 c.from-d.result c.loop-i-test.true
    (sym c.is_digit.ensures ∙ c.if-not-is_digit.false) c.from-d.ensures in record {
      number_value = sym (over a.s.now a.from _ _ (c.loop-i.i + 1) more (leb-false _ _ (sym c.has_room.ensures ∙ c.if-not-has_room.true)));
      end_value = c.past.ensures ∙ sym c.loop-i.invariant.1;
    }

-- a byte that is no digit
pub returns-then-not-is_digit : goal.returns-then-not-is_digit
returns-then-not-is_digit c =
    let inv = c.loop-i.invariant in
    let stop = past_of-false is_digit _ _ c.loop-i-test.true (sym c.is_digit.ensures ∙ c.if-not-is_digit.true) in record {
      number_value = c.read_up_to.ensures.number_value ∙ sym (done _ _ _ _ _ inv.2 inv.0 (inv.1 ∙ stop) stop);
      end_value = c.read_up_to.ensures.end_value ∙ sym (inv.1 ∙ stop);
    }

-- the end of the text
pub returns : goal.returns
returns c =
    let inv = c.loop-i.invariant in
    let stop = past_of-length-le is_digit _ _ c.loop-i-test.false in
    let at_end = c.max.ensures ∙ past_of-max is_digit _ _ _ inv.1 c.loop-i-test.false c.loop-i.auto.i-end ∙ inv.1 ∙ stop in record {
      number_value = rw at_end at c.read_up_to-2.ensures.number_value ∙ sym (done _ _ _ _ _ inv.2 inv.0 (inv.1 ∙ stop) stop);
      end_value = c.read_up_to-2.ensures.end_value ∙ at_end ∙ sym (inv.1 ∙ stop);
    }
