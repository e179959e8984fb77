-- `monthstrip::page::Page::put_name` meets its contract: the name is a word of the quoted text, and it has at most nine letters.
use mathlib.Core.Path.{◌≡◌, ap, ◌∙◌}
use mathlib.Core.List.{List, ◌++◌}
use native.Mathlib.Omega.{arith}
use lib.ListN.{length}
use Rattle.monthstrip.specs.Page.{month_name}
use Rattle.monthstrip.proofs.Pages.{length-month_name-le}
use Rattle.monthstrip.proofs.page.Page.put_name.Goals as goal

pub put_text-requires : goal.put_text-requires
unfolding month_name
put_text-requires c =
    let e : c.nth_word-name.result.now ≡ month_name c.args.month = c.nth_word-name.ensures in
    omega (arith, ap length e, length-month_name-le c.args.month, c.requires.room)

pub returns : goal.returns
unfolding month_name
returns c =
    let e : c.nth_word-name.result.now ≡ month_name c.args.month = c.nth_word-name.ensures in record {
      name = c.put_text.ensures ∙ ap (λ (s : List _). s ++ c.args.self.now) e;
      length = length-month_name-le c.args.month;
    }
