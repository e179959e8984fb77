-- `monthstrip::page::write_page` meets its contract: the strip decides whether there is a page, and its length whether it fits.
use mathlib.Core.Path.{◌≡◌, sym, ap, ◌∙◌}
use native.Mathlib.Omega.{arith}
use lib.IntN.{nat_abs}
use mir.Syntax.{w64}
use mir.Facts.{to_z-of_z}
use Rattle.strip.specs.Strip.{strip_of}
use Rattle.strip.specs.declared.Answered.{Answered}
use Rattle.monthstrip.specs.Page.{page_of, page_bytes}
use Rattle.monthstrip.proofs.Answers.{written_nothing, written_page, nat_abs-pos}
use Rattle.monthstrip.proofs.page.write_page.Goals as goal

-- no such month
pub returns-then-answered-ne0 : goal.returns-then-answered-ne0
returns-then-answered-ne0 c =
    let strip : c.of_month-answered.result ≡ strip_of c.args.year c.args.month =
    rw (to_z-of_z {w = w64} c.ranges.year, to_z-of_z {w = w64} c.ranges.month) at c.of_month-answered.ensures in
    let number : c.of_month-answered.result.number ≡ (strip_of c.args.year c.args.month).number = ap (λ (a : Answered). a.number) strip in
    let all = written_nothing c.args.year c.args.month c.args.room.now (λ e. c.if-answered-ne0.true (number ∙ e)) in record { value = all.0; room_after = all.1 }

pub put_strip-requires-clause-month : goal.put_strip-requires-clause-month
put_strip-requires-clause-month c =
    let strip : c.of_month-answered.result ≡ strip_of c.args.year c.args.month =
    rw (to_z-of_z {w = w64} c.ranges.year, to_z-of_z {w = w64} c.ranges.month) at c.of_month-answered.ensures in
    let number : c.of_month-answered.result.number ≡ (strip_of c.args.year c.args.month).number = ap (λ (a : Answered). a.number) strip in
    let month : c.magnitude.result ≡ nat_abs c.args.month = rw (to_z-of_z {w = w64} c.ranges.month) at c.magnitude.ensures in
    omega (arith, month, nat_abs-pos c.args.year c.args.month (sym number ∙ c.if-answered-ne0.false))

-- what is written of the page is the page of the strip that the library answered
pub returns : goal.returns
unfolding page_bytes
returns c =
    let strip : c.of_month-answered.result ≡ strip_of c.args.year c.args.month =
    rw (to_z-of_z {w = w64} c.ranges.year, to_z-of_z {w = w64} c.ranges.month) at c.of_month-answered.ensures in
    let number : c.of_month-answered.result.number ≡ (strip_of c.args.year c.args.month).number = ap (λ (a : Answered). a.number) strip in
    let month : c.magnitude.result ≡ nat_abs c.args.month = rw (to_z-of_z {w = w64} c.ranges.month) at c.magnitude.ensures in
    let page : c.written.result.now ≡ page_bytes c.args.year c.args.month =
    c.written.ensures ∙ (rw (to_z-of_z {w = w64} c.ranges.year) at c.put_strip.ensures) ∙ (λ i. page_of c.args.year (month i) (strip i).strip) in
    let all = written_page c.args.year c.args.month c.args.room.now _ _ _ (sym number ∙ c.if-answered-ne0.false) page c.write_whole.ensures.value c.write_whole.ensures.room_after in record { value = all.0; room_after = all.1 }
