-- `stamps::write::hull_width` meets its contract. The sum fits, since a path has at most 255 bytes and a key 16.
use native.Mathlib.Omega.{arith}
use Rattle.time.proofs.Headers.{length-header_bytes}
use Rattle.stamps.proofs.HullLines.{parts_of_is_path, parts_of_is_key}
use Rattle.stamps.proofs.Writing.{good_hull, length-ended-hull_line}
use Rattle.stamps.proofs.write.hull_width.Goals as goal

pub overflow_add-result-3 : goal.overflow_add-result-3
overflow_add-result-3 c =
    let good = good_hull c.args.path.now c.args.key.now c.args.time c.requires in
    record { fits = omega (arith, (parts_of_is_path c.args.path.now good.path_is).1, (parts_of_is_key c.args.key.now good.key_is).0, c.size.ensures.1) }

pub returns : goal.returns
returns c =
    omega (arith, length-ended-hull_line c.args.path.now c.args.key.now c.args.time, length-header_bytes c.args.time, c.size.ensures.0)
