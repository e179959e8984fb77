use Rattle.std.proofs.Common.{◌≡◌, ◌++◌, replicate}
use Rattle.monthstrip.specs.Page.{blank}
use Rattle.monthstrip.proofs.page.Page.put_blanks.Given as goal

abbrev pub invariant-loop : goal.invariant-loop
invariant-loop l = l.self ≡ replicate l.counter blank ++ l.fn.self
