-- `monthstrip::page::Page::put_year` meets its contract: a year of 64 bits has at most 20 bytes.
use mathlib.Core.Path.{◌≡◌, ap, ◌∙◌}
use mathlib.Core.List.{List, ◌++◌}
use Prim.Native.Nat.{ℕ, ◌-◌, ◌≤◌}
use native.Mathlib.Omega.{arith}
use lib.IntN.{ℤ}
use lib.ListN.{length, length-drop, drop}
use mir.Syntax.{w64}
use mir.Val.{SFits}
use mir.Facts.{to_z-of_z}
use Rattle.ints.proofs.Machine.{nat_abs-le_of_SFits}
use Rattle.text.specs.Decimal.{signed}
use Rattle.text.proofs.Signed.{length_signed_le, signed_before-append}
use Rattle.text.proofs.Behind.{drop-put}
use Rattle.monthstrip.proofs.page.Page.put_year.Goals as goal

width-le : {z : ℤ} → SFits w64 z → length (signed z) ≤ 20
width-le {z} f = length_signed_le z (nat_abs-le_of_SFits z f)

pub put_signed-self-inside-requires : goal.put_signed-self-inside-requires
put_signed-self-inside-requires c =
    let view : drop c.self.inside.start c.self.inside.bytes ≡ c.args.self.now = c.self.view_is in
    let most : c.self.inside.start ≤ 199 = c.self.invariant in
    rw (to_z-of_z {w = w64} c.ranges.year) (
      omega (arith, width-le c.ranges.year, ap length view, length-drop c.self.inside.start c.self.inside.bytes, c.self.told),
      omega (arith, c.self.told),
    )

pub returns : goal.returns
returns c =
    let z = c.args.year in
    let e = rw (to_z-of_z {w = w64} c.ranges.year) at c.put_signed-self-inside.ensures in
    let view : drop c.self.inside.start c.self.inside.bytes ≡ c.args.self.now = c.self.view_is in
    let most : c.self.inside.start ≤ 199 = c.self.invariant in
    let i : c.self.inside.start - length (signed z) ≤ length c.self.inside.bytes = omega (arith, c.self.told) in record {
      year = ap (λ (n : ℕ). drop n c.put_signed-self-inside.new.room) e.value ∙ drop-put _ _ _ _ e.room_after i ∙ signed_before-append _ _
          ∙ ap (λ (u : List ℕ). signed z ++ u) view;
      length = width-le c.ranges.year;
    }
