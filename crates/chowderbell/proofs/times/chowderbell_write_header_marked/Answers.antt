-- `chowderbell::times::chowderbell_write_header_marked` meets its contract.
use mathlib.Core.Bool.{Bool, true, false, cond, ◌&&◌}
use native.Mathlib.Omega.{arith}
use lib.IntN.{ℤ, pos, negsuc}
use mir.Syntax.{w32, w64}
use mir.Val.{SFits}
use mir.Facts.{to_z-of_z}
use Rattle.ints.specs.Equal.{eq_z}
use Rattle.chowderbell.specs.Entries.{is_set}
use Rattle.chowderbell.proofs.Marks.{header_bytes_of_mark, header_written_of_mark}
use Rattle.chowderbell.proofs.times.chowderbell_write_header_marked.Goals as goal

-- the offset that is passed on is one of 32 bits
cond-fits : {o : ℤ} (b : Bool) → SFits w32 o → SFits w32 (cond b (negsuc 0) o)
cond-fits true f = record { sfits = omega arith }
cond-fits false f = f

pub returns : goal.returns
returns c =
    let o-fits = c.ranges.offset in
    let e = rw (
      c.shown_offset.ensures,
      to_z-of_z {w = w64} c.ranges.seconds,
      to_z-of_z {w = w32} o-fits,
      to_z-of_z {w = w32} (cond-fits (is_set c.args.mark && eq_z c.args.offset (pos 0)) o-fits),
    ) at c.chowderbell_write_header.ensures in
    record {
      length = rw header_written_of_mark e.length;
      room = rw (header_written_of_mark, header_bytes_of_mark) e.room;
    }
