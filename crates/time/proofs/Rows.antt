-- Two tables of examples make one.
-- Assumes nothing.
use mathlib.Core.List.{List, [], ◌∷◌, ◌++◌}
use Rattle.time.specs.Rows.{Row, AllRight}

pub AllRight-append : (rs more : List Row) → AllRight rs → AllRight more → AllRight (rs ++ more)
AllRight-append [] more p q = q
AllRight-append (r ∷ rs) more p q = (p.0, AllRight-append rs more p.1 q)
