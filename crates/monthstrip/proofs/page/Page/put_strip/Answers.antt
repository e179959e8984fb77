-- `monthstrip::page::Page::put_strip` meets its contract: six rows of 24 bytes, a line of 24 and a title of 31 at most fit into 199.
use mir.Syntax.{w64}
use mir.Facts.{to_z-of_z}
use Rattle.monthstrip.proofs.Pages.{page_put}
use Rattle.monthstrip.proofs.page.Page.put_strip.Goals as goal

pub returns : goal.returns
returns c =
    page_put c.args.year c.args.month c.args.s _ _ _ _ c.requires.empty
    c.put_rows.ensures.rows c.put_text.ensures (rw (to_z-of_z {w = w64} c.ranges.year) at c.put_title.ensures)
