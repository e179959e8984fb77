-- `time::range::instant_of` meets its contract: in range, neither sum wraps.
use Rattle.std.specs.Prelude.{None, Some}
use mathlib.Core.Path.{◌≡◌, sym, ap, ◌∙◌}
use mathlib.Core.Bool.{Bool, true, false, ◌&&◌}
use native.Mathlib.Omega.{arith}
use lib.IntN.{ℤ, pos, nat_abs, ◌+ℤ◌}
use mir.Syntax.{w32, w64}
use mir.Val.{SFits, to_z, of_z}
use mir.ValLaws.{to_z-of_z}
use Rattle.ints.specs.Range.{In}
use Rattle.ints.proofs.Machine.{At, lit, known, add, fits, read, unsign, size-le, size-ge}
use Rattle.time.specs.Range.{least_seconds, most_seconds, seconds_in_range, least_offset, most_offset, offset_in_range, instant_of, moved_of}
use Rattle.time.specs.declared.Time.{Time}
use Rattle.time.proofs.Ranges.{seconds_of_test, offset_of_test, moved_of_in, moved_of-out}
use Rattle.time.proofs.range.instant_of.Goals as goal

-- the two answers about the range: p is the one for the seconds, q that for the offset
module _ (t : Time) {p q : Bool} (f : SFits w64 t.seconds) (g : SFits w32 t.offset)
    (e : p ≡ seconds_in_range (to_z w64 (of_z w64 t.seconds))) (h : q ≡ offset_in_range (to_z w32 (of_z w32 t.offset))) where
  seconds-test : p ≡ seconds_in_range t.seconds
  seconds-test = e ∙ ap seconds_in_range (to_z-of_z w64 t.seconds f)

  offset-test : q ≡ offset_in_range t.offset
  offset-test = h ∙ ap offset_in_range (to_z-of_z w32 t.offset g)

  is_moved : (p && q) ≡ true → moved_of t ≡ Some (instant_of t)
  is_moved b = moved_of_in t seconds-test offset-test b

  is_not_moved : (p && q) ≡ false → moved_of t ≡ None
  is_not_moved b = moved_of-out t seconds-test offset-test b

  seconds_in_bounds : (p && q) ≡ true → In least_seconds most_seconds t.seconds
  seconds_in_bounds b = seconds_of_test t seconds-test offset-test b

  offset_in_bounds : (p && q) ≡ true → In least_offset most_offset t.offset
  offset_in_bounds b = offset_of_test t seconds-test offset-test b

-- the two sums, as the machine has them
seconds_moved : {z : ℤ} → In least_seconds most_seconds z
    → At (pos 31715999) (pos 631138946400) (z +ℤ pos 377736739200) (to_z w64 (of_z w64 z) +ℤ pos 377736739200)
seconds_moved k = add (known w64 tt k) (lit (pos 377736739200))

offset_moved : {z : ℤ} → In least_offset most_offset z
    → At (pos 1) (pos 187199) (z +ℤ pos 93600) (to_z w32 (of_z w32 z) +ℤ pos 93600)
offset_moved k = add (known w32 tt k) (lit (pos 93600))

pub overflow_add-result : goal.overflow_add-result
overflow_add-result c =
    let f : SFits w64 c.args.t.seconds = record { sfits = omega arith } in
    let g : SFits w32 c.args.t.offset = record { sfits = omega arith } in
    let k = seconds_in_bounds c.args.t f g c.seconds_in_range.ensures c.offset_in_range.ensures c.if-seconds_in_range-offset_in_range.true in fits w64 tt (seconds_moved k)

pub overflow_cast-result : goal.overflow_cast-result
overflow_cast-result c =
    let f : SFits w64 c.args.t.seconds = record { sfits = omega arith } in
    let g : SFits w32 c.args.t.offset = record { sfits = omega arith } in
    let k = seconds_in_bounds c.args.t f g c.seconds_in_range.ensures c.offset_in_range.ensures c.if-seconds_in_range-offset_in_range.true in unsign w64 tt (read w64 tt (seconds_moved k))

pub overflow_add-result-then-seconds_in_range-offset_in_range : goal.overflow_add-result-then-seconds_in_range-offset_in_range
overflow_add-result-then-seconds_in_range-offset_in_range c =
    let f : SFits w64 c.args.t.seconds = record { sfits = omega arith } in
    let g : SFits w32 c.args.t.offset = record { sfits = omega arith } in
    let k = offset_in_bounds c.args.t f g c.seconds_in_range.ensures c.offset_in_range.ensures c.if-seconds_in_range-offset_in_range.true in fits w32 tt (offset_moved k)

pub overflow_cast-result-then-seconds_in_range-offset_in_range : goal.overflow_cast-result-then-seconds_in_range-offset_in_range
overflow_cast-result-then-seconds_in_range-offset_in_range c =
    let f : SFits w64 c.args.t.seconds = record { sfits = omega arith } in
    let g : SFits w32 c.args.t.offset = record { sfits = omega arith } in
    let k = offset_in_bounds c.args.t f g c.seconds_in_range.ensures c.offset_in_range.ensures c.if-seconds_in_range-offset_in_range.true in unsign w64 tt (read w32 tt (offset_moved k))

-- in range
pub returns-then-seconds_in_range-offset_in_range : goal.returns-then-seconds_in_range-offset_in_range
returns-then-seconds_in_range-offset_in_range c =
    let f : SFits w64 c.args.t.seconds = record { sfits = omega arith } in
    let g : SFits w32 c.args.t.offset = record { sfits = omega arith } in
    let s = read w64 tt (seconds_moved (seconds_in_bounds c.args.t f g c.seconds_in_range.ensures c.offset_in_range.ensures c.if-seconds_in_range-offset_in_range.true)) in
    let o = read w32 tt (offset_moved (offset_in_bounds c.args.t f g c.seconds_in_range.ensures c.offset_in_range.ensures c.if-seconds_in_range-offset_in_range.true)) in record {
      value = (λ i. Some (record { seconds = nat_abs (s.is i); offset = nat_abs (o.is i) }))
          ∙ sym (is_moved c.args.t f g c.seconds_in_range.ensures c.offset_in_range.ensures c.if-seconds_in_range-offset_in_range.true);
      ranges = record { early = size-ge tt s; late = size-le tt s; west = size-ge tt o; east = size-le tt o };
    }

-- out of it
pub returns-else-seconds_in_range-offset_in_range-clause-value : goal.returns-else-seconds_in_range-offset_in_range-clause-value
returns-else-seconds_in_range-offset_in_range-clause-value c =
    let f : SFits w64 c.args.t.seconds = record { sfits = omega arith } in
    let g : SFits w32 c.args.t.offset = record { sfits = omega arith } in
    sym (is_not_moved c.args.t f g c.seconds_in_range.ensures c.offset_in_range.ensures c.if-seconds_in_range-offset_in_range.false)
