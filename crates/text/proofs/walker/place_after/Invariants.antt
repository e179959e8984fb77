use Rattle.std.proofs.Common.{◌≡◌, ◌-◌}
use Rattle.text.specs.Walk.{passed}
use Rattle.text.proofs.walker.place_after.Given as goal

abbrev pub invariant-loop : goal.invariant-loop
invariant-loop g l = passed g.C.Class.holds l.n l.text l.at ≡ passed g.C.Class.holds (l.n - l.counter) l.text l.i
