-- `strip::weeks_of` meets its contract. The invariant: the rows before the next have their weeks, and the others 0.
use mathlib.Core.Path.{sym, ◌∙◌}
use native.Mathlib.Nat.{not-suc-le-zero}
use native.Mathlib.Omega.{arith}
use Rattle.std.proofs.Common.{add-one}
use Rattle.strip.specs.Weeks.{weekday}
use Rattle.strip.proofs.Filling.{Filled-zeros, Filled-set, Filled-skip, along_of_Filled}
use Rattle.strip.proofs.Places.{week_from_in, week_from-behind}
use Rattle.strip.proofs.weeks_of.Goals as goal
use Rattle.strip.proofs.weeks_of.Goals.{then-monday-end, else-monday-end}

pub loop-row-init : goal.loop-row-init
loop-row-init c = Filled-zeros _ 6 0 (omega arith) (λ i h. absurd (not-suc-le-zero h))

pub overflow_add-monday : goal.overflow_add-monday
overflow_add-monday c = record { fits = omega arith }

pub week_of-requires : goal.week_of-requires
unfolding weekday
week_of-requires c = record {
  thursday = omega (arith, c.requires.monday);
  day = omega (arith, c.requires.monday);
}

pub loop-row-preserved : goal.loop-row-preserved
loop-row-preserved c =
    let row = c.loop-row.row in
    elim c.if-monday-end.branch [
      | then-monday-end w ↦
          let value = w.week_of.ensures ∙ sym (week_from_in c.args.start c.args.end row w.if-monday-end.true) in
          rw (add-one, w.weeks-is) (Filled-set _ 6 row _ _ (omega arith) value c.loop-row.invariant)
      | else-monday-end w ↦
          rw (add-one, w.weeks-is) (Filled-skip _ 6 row _ (omega arith) (week_from-behind c.args.start c.args.end row w.if-monday-end.false) c.loop-row.invariant)
    ]

pub returns : goal.returns
returns c = along_of_Filled _ 6 c.loop-row.row _ c.loop-row.invariant (λ r l h. absurd (omega arith))
