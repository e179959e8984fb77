-- `time::format::local_clock` meets its contract: at every offset in range the local day is one of the calendar's.
use Prim.Native.Nat.{◌%◌}
use Rattle.time.specs.Clock.{local_of, clock_of}
use Rattle.time.proofs.format.local_clock.Goals as goal

pub returns-clause-is : goal.returns-clause-is
unfolding clock_of
returns-clause-is c = λ j. record { date = c.date_of.ensures.is j; second = local_of c.args.i % 86400 }
