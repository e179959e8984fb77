-- `turns::reading::Reading::verdict` meets its contract.
use mathlib.Core.Path.{sym, ◌∙◌}
use mathlib.Core.Bool.{false≢true}
use borrow.Author.Tests.{lt-ltb, le-leb, lt-leb}
use native.Mathlib.Nat.{pos_of_ne-zero}
use Rattle.relative.specs.Relative.{max_pairs}
use Rattle.turns.proofs.Readings.{read_on-end}
use Rattle.turns.proofs.reading.Reading.verdict.Goals as goal
use Rattle.turns.proofs.reading.Reading.verdict.Goals.{then-self-eq0, else-self-eq0}

pub returns-then-not-self : goal.returns-then-not-self
returns-then-not-self c =
    let r = c.args.self in
    rw (read_on-end max_pairs r) (elim c.if-self-eq0.branch [
      | then-self-eq0 w ↦ rw w.if-self-eq0.true
      | else-self-eq0 w ↦ rw (lt-ltb 0 r.pairs (pos_of_ne-zero w.if-self-eq0.false), sym w.value-is ∙ c.if-not-self.true)
    ])

pub returns-then-self-gt-MAX_PAIRS : goal.returns-then-self-gt-MAX_PAIRS
returns-then-self-gt-MAX_PAIRS c =
    let r = c.args.self in
    rw (read_on-end max_pairs r) (elim c.if-self-eq0.branch [
      | then-self-eq0 w ↦ absurd (false≢true (sym c.if-not-self.false ∙ (rw w.if-self-eq0.true at w.value-is)))
      | else-self-eq0 w ↦
          rw (lt-ltb 0 r.pairs (pos_of_ne-zero w.if-self-eq0.false), sym w.value-is ∙ c.if-not-self.false, lt-leb r.pairs max_pairs c.if-self-gt-MAX_PAIRS.true)
    ])

pub returns-else-self-gt-MAX_PAIRS : goal.returns-else-self-gt-MAX_PAIRS
returns-else-self-gt-MAX_PAIRS c =
    let r = c.args.self in
    rw (read_on-end max_pairs r) (elim c.if-self-eq0.branch [
      | then-self-eq0 w ↦ absurd (false≢true (sym c.if-not-self.false ∙ (rw w.if-self-eq0.true at w.value-is)))
      | else-self-eq0 w ↦
          rw (lt-ltb 0 r.pairs (pos_of_ne-zero w.if-self-eq0.false), sym w.value-is ∙ c.if-not-self.false, le-leb r.pairs max_pairs c.if-self-gt-MAX_PAIRS.false)
    ])
