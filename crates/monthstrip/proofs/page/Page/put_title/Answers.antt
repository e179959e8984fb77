-- `monthstrip::page::Page::put_title` meets its contract: the margin is that of the length of what was put.
use mathlib.Core.Path.{◌≡◌, ap, ◌∙◌}
use Prim.Native.Nat.{ℕ, ◌-◌, ◌/◌}
use native.Mathlib.Omega.{arith}
use lib.ListN.{length, length-append}
use mir.Syntax.{w64}
use mir.Facts.{to_z-of_z}
use Rattle.monthstrip.specs.Page.{heading}
use Rattle.monthstrip.proofs.Pages.{length-heading, title_put}
use Rattle.monthstrip.proofs.page.Page.put_title.Goals as goal

pub returns : goal.returns
returns c =
    let year = rw (to_z-of_z {w = w64} c.ranges.year) at c.put_year.ensures in
    let digits = simp length-append at (ap length year.year) in
    let name = simp length-append at (ap length c.put_name.ensures.name) in
    let width : c.len.result - c.len-below.result - 1 ≡ length (heading c.args.year c.args.month) =
    omega (arith, length-heading c.args.year c.args.month, name, ap length c.put_text-2.ensures, digits, ap length c.put_text.ensures, c.len.ensures, c.len-below.ensures) in
    title_put c.args.year c.args.month _ _ _ _ _ _ _ (c.margin.ensures ∙ ap (λ (n : ℕ). (23 - n) / 2) width)
    c.put_text.ensures year.year c.put_text-2.ensures c.put_name.ensures.name c.put_blanks.ensures
