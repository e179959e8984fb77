-- `relative::pairs::scan` meets its contract. Each way in which the scan goes on is a law of `Scanning`: the word that is taken, and
-- what it is.
use Rattle.std.specs.Prelude.{Some}
use mathlib.Core.Path.{◌≡◌, ap, ◌∙◌}
use mathlib.Core.Bool.{false}
use native.Mathlib.Omega.{arith}
use borrow.Author.Rules.{rules}
use Rattle.text.specs.Places.{part}
use Rattle.relative.specs.Words.{is, count_of, unit_of}
use Rattle.relative.proofs.Scanning.{scanned_start, all_number, all_known, all_mark, all_gone, marked, passed, dropped, subtracted, beyond, left_some, left_none, further}
use Rattle.relative.proofs.pairs.scan.Goals as goal
use Rattle.relative.proofs.pairs.scan.Goals.{then-number-lt-MAX_PAIRS, else-number-lt-MAX_PAIRS}

-- no word is read yet
pub loop-span-init : goal.loop-span-init
loop-span-init c = rw c.new-reader.ensures (search rules, c.requires, scanned_start _ _ _)

-- no word is left
pub returns-in_default : goal.returns-in_default
returns-in_default c =
    let inv = c.loop-span.invariant in
    let all = rw (left_none _ _ c.in_default.ensures) at inv.2 in record {
      number = all_number all;
      known = all_known all;
      mark = all_mark all;
      landing = all_gone all;
      range = inv.1;
    }

pub loop-span-smaller-then-same_ignoring_case : goal.loop-span-smaller-then-same_ignoring_case
loop-span-smaller-then-same_ignoring_case c = omega (arith, further _ _ c.in-Some.ensures)

-- `ago`: the mark
pub loop-span-preserved-then-same_ignoring_case : goal.loop-span-preserved-then-same_ignoring_case
loop-span-preserved-then-same_ignoring_case c =
    let inv = c.loop-span.invariant in (
      omega (arith, inv.0, further _ _ c.in-Some.ensures),
      inv.1,
      marked (rw (left_some _ _ c.in-Some.ensures) at inv.2) (rw (← c.within-word.ensures, ← c.same_ignoring_case.ensures) c.if-same_ignoring_case.true),
    )

pub loop-span-smaller-in_default-count : goal.loop-span-smaller-in_default-count
loop-span-smaller-in_default-count c = omega (arith, further _ _ c.in-Some.ensures)

-- any other word that is no count
pub loop-span-preserved-in_default-count : goal.loop-span-preserved-in_default-count
loop-span-preserved-in_default-count c =
    let inv = c.loop-span.invariant in
    let other : is (part c.args.s.now c.in-Some.span) "ago" ≡ false = rw (← c.within-word.ensures, ← c.same_ignoring_case.ensures) c.if-same_ignoring_case.false in (
      omega (arith, inv.0, further _ _ c.in-Some.ensures),
      inv.1,
      passed (rw (left_some _ _ c.in-Some.ensures) at inv.2) other (rw (← c.within-word.ensures, ← c.count.ensures) c.in_default-count.is),
    )

-- a count at the end
pub returns-in_default-take : goal.returns-in_default-take
returns-in_default-take c =
    let inv = c.loop-span.invariant in
    let other : is (part c.args.s.now c.in-Some.span) "ago" ≡ false = rw (← c.within-word.ensures, ← c.same_ignoring_case.ensures) c.if-same_ignoring_case.false in
    let all = dropped (rw (left_some _ _ c.in-Some.ensures, left_none _ _ c.in_default-take.ensures) at inv.2) other in record {
      number = all_number all;
      known = all_known all;
      mark = all_mark all;
      landing = all_gone all;
      range = inv.1;
    }

-- each pair took two bytes or more
pub overflow_add-number : goal.overflow_add-number
overflow_add-number c = omega (arith, c.loop-span.invariant.0, further _ _ c.in-Some.ensures)

pub loop-span-smaller : goal.loop-span-smaller
loop-span-smaller c = omega (arith, further _ _ c.in-Some.ensures, further _ _ c.in-Some-take.ensures)

-- a pair: it is subtracted, or it is beyond the bound and only counted
pub loop-span-preserved : goal.loop-span-preserved
loop-span-preserved c =
    let inv = c.loop-span.invariant in
    let s = c.args.s.now in
    let other : is (part s c.in-Some.span) "ago" ≡ false = rw (← c.within-word.ensures, ← c.same_ignoring_case.ensures) c.if-same_ignoring_case.false in
    let counts : count_of (part s c.in-Some.span) ≡ Some c.in-Some-count.count = rw (← c.within-word.ensures, ← c.count.ensures) c.in-Some-count.is in
    let unit : c.unit-unit.result ≡ unit_of (part s c.in-Some-take.unit_span) = c.unit-unit.ensures ∙ ap unit_of c.within.ensures in
    let two = rw (left_some _ _ c.in-Some.ensures, left_some _ _ c.in-Some-take.ensures) at inv.2 in
    elim c.if-number-lt-MAX_PAIRS.branch [
      | then-number-lt-MAX_PAIRS w ↦
          rw w.landing-is (
            omega (arith, inv.0, further _ _ c.in-Some.ensures, further _ _ c.in-Some-take.ensures),
            w.subtract_from-landing.ensures.range,
            subtracted two other counts unit c.is_known-known.ensures w.subtract_from-landing.ensures.is,
          )
      | else-number-lt-MAX_PAIRS w ↦
          rw w.landing-is (
            omega (arith, inv.0, further _ _ c.in-Some.ensures, further _ _ c.in-Some-take.ensures),
            inv.1,
            beyond two other counts unit c.is_known-known.ensures (omega (arith, w.if-number-lt-MAX_PAIRS.false)),
          )
    ]
