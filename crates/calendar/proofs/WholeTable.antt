-- RULES 3.3 and 12.5: what `MonthTable::whole` promises fixes the table: its 4,800 entries, of which the type says that each is a first day.
-- Assumes nothing.
use mathlib.Core.Path.{◌≡◌, sym, ◌∙◌}
use Rattle.calendar.proofs.Walk.{IsMonths-unique}
use Rattle.calendar.proofs.table.MonthTable.whole.Reads as whole

pub month_table_whole_unique : (κ : _) (a : _) (r s : _) (e f : _) → whole.Post κ a r e → whole.Post κ a s f → r.table.now ≡ s.table.now
month_table_whole_unique κ a r s e f p q = IsMonths-unique (p ∙ sym q) r.right s.right
