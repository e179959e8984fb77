-- `time::range::time_of` meets its contract: in range, neither difference wraps.
use Rattle.std.specs.Prelude.{Ok}
use mathlib.Core.Path.{◌≡◌, sym, ap, ◌∙◌}
use mathlib.Core.Bool.{Bool, true, ◌&&◌}
use native.Mathlib.Omega.{arith}
use lib.Dec.{leb}
use lib.IntN.{pos}
use mir.Syntax.{w32, w64}
use Rattle.ints.proofs.Machine.{cast, sub, lit, fits, read}
use Rattle.time.specs.Answers.{time_at}
use Rattle.time.specs.Range.{seconds_in_range, since1970, time_in_range, time_of, InRange}
use Rattle.time.specs.declared.range.Instant.{Instant}
use Rattle.time.proofs.Ranges.{time_in_range-time_of, answer_at_of_in, answer_at_of_out, InRange_of_time_of}
use Rattle.time.proofs.range.time_of.Goals as goal

-- the test is that of the definition: p is the answer for the seconds
module _ (i : Instant) {p : Bool} (e : p ≡ seconds_in_range (since1970 i.seconds)) where
  test : {q : Bool} → (p && (leb 1 i.offset && leb i.offset 187199)) ≡ q → time_in_range (time_of i) ≡ q
  test h = sym (time_in_range-time_of i e) ∙ h

  in-range : (p && (leb 1 i.offset && leb i.offset 187199)) ≡ true → InRange i
  in-range h = InRange_of_time_of i (test h)

pub overflow_cast-i : goal.overflow_cast-i
overflow_cast-i c = let p = in-range c.args.i c.in_range.ensures c.if-in_range-i.true in record { sfits = omega arith }

pub overflow_sub-i : goal.overflow_sub-i
overflow_sub-i c =
    let p = in-range c.args.i c.in_range.ensures c.if-in_range-i.true in
    fits w64 tt (sub (cast w64 _ tt p.late) (lit (pos 377736739200)))

pub returns-then-in_range-i : goal.returns-then-in_range-i
returns-then-in_range-i c =
    let p = in-range c.args.i c.in_range.ensures c.if-in_range-i.true in
    let s = (read w64 tt (sub (cast w64 _ tt p.late) (lit (pos 377736739200)))).is in
    let o = (read w32 tt (sub (cast w32 _ tt p.east) (lit (pos 93600)))).is in
    ap Ok (c.new.ensures ∙ (λ i. time_at (s i) (o i))) ∙ sym (answer_at_of_in _ (test c.args.i c.in_range.ensures c.if-in_range-i.true))

-- out of it
pub returns-else-in_range-i : goal.returns-else-in_range-i
returns-else-in_range-i c = sym (answer_at_of_out _ (test c.args.i c.in_range.ensures c.if-in_range-i.false))
