-- `lines::layout::cut_at_tab` meets its contract.
use mathlib.Core.Path.{ap, ◌∙◌}
use Prim.Native.Nat.{ℕ, ◌+◌}
use native.Mathlib.Omega.{arith}
use borrow.Author.Tests.{lt-ltb, le-ltb}
use lib.ListN.{length, take, drop}
use Rattle.text.specs.Places.{first_place, has}
use Rattle.text.specs.Lines.{tab}
use Rattle.text.proofs.Lists.{take-length-sub-drop}
use Rattle.lines.proofs.layout.cut_at_tab.Goals as goal

pub returns-then-i-s : goal.returns-then-i-s
unfolding has
returns-then-i-s c =
    let s = c.args.s.now in
    let e = c.first_place-i.ensures.0 in record {
      found = rw (lt-ltb (first_place tab s) (length s) (omega (arith, e)));
      parts = (ap (λ (v : ℕ). take v s) e, take-length-sub-drop s (c.first_place-i.result + 1) ∙ ap (λ (v : ℕ). drop (v + 1) s) e);
    }

pub returns-else-i-s : goal.returns-else-i-s
unfolding has
returns-else-i-s c =
    let s = c.args.s.now in record {
      found = rw (le-ltb (first_place tab s) (length s) (omega (arith, c.first_place-i.ensures.0)));
      parts = tt;
    }
