-- `text::decimal::put_decimal` meets its contract. The invariant: writing the digits of v in front of place i gives what writing
-- the digits of n in front of `end` gives. The measure: v.
use mathlib.Core.Path.{◌≡◌, sym, ap, ◌∙◌}
use mathlib.Core.List.{◌∷◌, ◌++◌}
use Prim.Native.Nat.{ℕ, ◌-◌, ◌/◌, ◌≤◌, ◌<◌}
use native.Mathlib.Omega.{arith}
use lib.ListN.{length, take, drop}
use Rattle.text.specs.Decimal.{decimal}
use Rattle.text.proofs.Decimals.{length-decimal_of_le, length-decimal_of_lt, length-decimal_between, length-decimal-div, length-decimal-pos}
use Rattle.text.proofs.Putting.{put, put_of_lt, put-two_of_le, put-two_of_lt, length-two-put}
use Rattle.text.proofs.decimal.put_decimal.Goals as goal

-- two digits or more take two places or more
two : (v i : ℕ) → 10 ≤ v → length (decimal v) ≤ i → 1 < i
two v i h k = omega (arith, k, length-decimal_of_le v h, length-decimal-pos (v / 10))

rest : (v i : ℕ) → 100 ≤ v → length (decimal v) ≤ i → length (decimal (v / 100)) ≤ i - 2
rest v i h k = omega (arith, k, length-decimal-div 2 v h)

same_start : (v i a : ℕ) → 100 ≤ v → length (decimal v) ≤ i → a ≡ i - length (decimal v) → a ≡ i - 2 - length (decimal (v / 100))
same_start v i a h k e = omega (arith, length-decimal-div 2 v h)

less : (i n m : ℕ) → i ≤ n → m ≡ n → i - 2 ≤ m
less i n m h e = omega arith

pub put_two-requires : goal.put_two-requires
put_two-requires c = let l = c.loop-v in (omega arith, two l.v l.i (omega arith) l.invariant.0, l.invariant.1)

pub loop-v-preserved : goal.loop-v-preserved
loop-v-preserved c =
    let l = c.loop-v in
    let many = c.loop-v-test.true in
    let e = c.put_two.ensures in
    let same = ap length e ∙ length-two-put l.room l.i _ _ (two l.v l.i (omega arith) l.invariant.0) l.invariant.1 in (
      rest l.v l.i many l.invariant.0,
      less l.i (length l.room) _ l.invariant.1 same,
      l.invariant.2 ∙ put-two_of_le l.v l.i l.room many l.invariant.0 l.invariant.1 ∙ ap (put (l.v / 100) (l.i - 2)) (sym e),
      same ∙ l.invariant.3,
      same_start l.v l.i _ many l.invariant.0 l.invariant.4,
    )

pub put_two-requires-then-v-ge10 : goal.put_two-requires-then-v-ge10
put_two-requires-then-v-ge10 c = let l = c.loop-v in (omega arith, two l.v l.i c.if-v-ge10.true l.invariant.0, l.invariant.1)

pub returns-then-v-ge10 : goal.returns-then-v-ge10
returns-then-v-ge10 c =
    let l = c.loop-v in record {
      value = omega (arith, l.invariant.4, length-decimal_between 1 l.v c.if-v-ge10.true (omega arith));
      room_after = c.put_two-then-v-ge10.ensures ∙ sym (l.invariant.2 ∙ put-two_of_lt l.v l.i l.room c.if-v-ge10.true (omega arith) l.invariant.0 l.invariant.1);
    }

pub put_byte-requires : goal.put_byte-requires
put_byte-requires c = let l = c.loop-v in (omega (arith, l.invariant.0, length-decimal-pos l.v), l.invariant.1)

pub returns-else-v-ge10 : goal.returns-else-v-ge10
returns-else-v-ge10 c =
    let l = c.loop-v in record {
      value = omega (arith, l.invariant.4, length-decimal_of_lt l.v (omega arith));
      room_after = c.put_byte.ensures
          ∙ ap (λ (b : ℕ). take (l.i - 1) l.room ++ b ∷ drop l.i l.room) c.digit.ensures
          ∙ sym (l.invariant.2 ∙ put_of_lt l.v l.i l.room (omega arith));
    }
