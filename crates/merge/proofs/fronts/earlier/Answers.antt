-- `merge::fronts::earlier` meets its contract, machine by machine.
use Rattle.std.specs.Prelude.{Option}
use mathlib.Core.Path.{◌≡◌, ap, ◌∙◌}
use mathlib.Core.List.{List}
use Prim.Native.Nat.{ℕ}
use Rattle.relative.specs.Relative.{max_pairs}
use Rattle.merge.specs.Fronts.{front_of, earlier_of, earlier_machine, line_from, earlier_line}
use Rattle.merge.specs.declared.fronts.Front.{Front}
use Rattle.merge.specs.declared.lists.Machine.{Machine}
use Rattle.merge.proofs.fronts.earlier.Goals as goal

-- the line of the machine that is found
line : (first second : List ℕ) {f g : Front} {m : Option Machine} → f ≡ front_of max_pairs first → g ≡ front_of max_pairs second → m ≡ earlier_of f g
    → line_from m first second ≡ earlier_line max_pairs first second
unfolding earlier_machine
line first second a b e = ap (λ (m : Option Machine). line_from m first second) (e ∙ (λ i. earlier_of (a i) (b i)))

pub returns-in-Some-First : goal.returns-in-Some-First
returns-in-Some-First c =
    rw c.in-Some-First.field-0-is at (line c.args.first.now c.args.second.now c.front_of.ensures c.front_of-2.ensures c.in-Some-First.ensures)

pub returns-in-Some-Second : goal.returns-in-Some-Second
returns-in-Some-Second c =
    rw c.in-Some-Second.field-0-is at (line c.args.first.now c.args.second.now c.front_of.ensures c.front_of-2.ensures c.in-Some-Second.ensures)

pub returns-in-None : goal.returns-in-None
returns-in-None c = c.up_to.ensures ∙ line c.args.first.now c.args.second.now c.front_of.ensures c.front_of-2.ensures c.in-None.ensures
