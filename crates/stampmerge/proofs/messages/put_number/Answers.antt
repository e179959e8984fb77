-- `stampmerge::messages::put_number` meets its contract: a number of 64 bits has at most 20 digits.
use mathlib.Core.Path.{◌≡◌, refl, ap, ◌∙◌}
use mathlib.Core.List.{List, ◌++◌}
use Prim.Native.Nat.{ℕ, ◌-◌, ◌≤◌, ◌<◌, ◌^◌}
use native.Mathlib.Omega.{arith}
use lib.ListN.{length, drop}
use Rattle.text.specs.Decimal.{decimal, decimal_before}
use Rattle.text.proofs.Decimals.{length-decimal-le}
use Rattle.text.proofs.Behind.{drop-put}
use borrow.Author.Rules.{rules}
use Rattle.stampmerge.proofs.messages.put_number.Goals as goal

width-le : (n : ℕ) → n < 2 ^ 64 → length (decimal n) ≤ 20
width-le n h = length-decimal-le 19 n (omega (arith, h))

decimalBefore-is : (n : ℕ) (t : List ℕ) → decimal_before n t ≡ decimal n ++ t
unfolding decimal_before
decimalBefore-is n t = refl

pub put_decimal-requires : goal.put_decimal-requires
put_decimal-requires c = (omega (arith, width-le c.args.n c.ranges.n.fits), search rules)

pub returns : goal.returns
returns c =
    let n = c.args.n in
    let w : length (decimal n) ≤ 20 = width-le n c.ranges.n.fits in
    let e = c.put_decimal.ensures in
    let i : c.args.end - length (decimal n) ≤ length c.args.room.now = omega arith in record {
      n_value = (omega (arith, e.value, w), w);
      room_after = ap (λ k. drop k c.put_decimal.new.room) e.value ∙ drop-put _ _ _ _ e.room_after i ∙ decimalBefore-is _ _;
    }
