-- `time::format::cut_to_minutes` meets its contract: a quotient is cut toward zero, and it and its product fit.
use mathlib.Core.Path.{◌∙◌}
use native.Mathlib.Omega.{arith}
use lib.IntN.{ℤ, pos}
use lib.Signed.{quot_z}
use mir.Syntax.{w32}
use mir.Val.{SFits, to_z, of_z}
use Rattle.ints.proofs.Machine.{At, least, most, param, over, times, read, fits}
use Rattle.time.proofs.Minutes.{quot_is_cut}
use Rattle.time.proofs.format.cut_to_minutes.Goals as goal

-- the quotient, as the machine has it
quotient : {z : ℤ} → SFits w32 z → At (quot_z (least w32) (pos 60)) (quot_z (most w32) (pos 60)) (quot_z z (pos 60)) (quot_z (to_z w32 (of_z w32 z)) (pos 60))
quotient f = over 60 (omega arith) (param w32 f)

pub returns : goal.returns
returns c = (read w32 tt (times 60 (read w32 tt (quotient c.ranges.offset)))).is ∙ quot_is_cut c.args.offset

pub nonzero_div-result : goal.nonzero_div-result
nonzero_div-result c = (omega arith, fits w32 tt (quotient c.ranges.offset))

pub overflow_mul-result : goal.overflow_mul-result
overflow_mul-result c = fits w32 tt (times 60 (read w32 tt (quotient c.ranges.offset)))
