-- `time::Time::largest` meets its contract. `search` would find the proof; it is here so that a wrong constant is refused with its number.
use mathlib.Core.Path.{refl}
use Rattle.time.proofs.Time.largest.Goals as goal

pub returns : goal.returns
returns c = refl
