-- `turns::parse` meets its contract.
use mathlib.Core.Path.{◌≡◌, sym, ◌∙◌}
use native.Mathlib.Omega.{arith}
use Rattle.relative.specs.Relative.{max_pairs, relative_of}
use Rattle.turns.specs.Turns.{turns_of}
use Rattle.turns.proofs.Alike.{turns_as_relative, turns_too_long, turns-not-ascii}
use Rattle.turns.proofs.parse.Goals as goal

pub returns-then-not-is_ascii : goal.returns-then-not-is_ascii
returns-then-not-is_ascii c = sym (turns-not-ascii _ _ _ (sym c.is_ascii.ensures ∙ c.if-not-is_ascii.true))

-- too long
pub returns-then-s-gt-MAX_LENGTH : goal.returns-then-s-gt-MAX_LENGTH
returns-then-s-gt-MAX_LENGTH c = sym (turns_too_long _ _ _ (sym c.is_ascii.ensures ∙ c.if-not-is_ascii.false) (omega (arith, c.if-s-gt-MAX_LENGTH.true)))

-- not too long
pub returns : goal.returns
unfolding relative_of
returns c =
    let a = c.args in
    let alike : turns_of max_pairs a.s.now a.current ≡ relative_of max_pairs a.s.now a.current = turns_as_relative _ _ _ (omega (arith, c.if-s-gt-MAX_LENGTH.false)) in
    rw (alike, ← c.is_ascii.ensures, c.if-not-is_ascii.false) c.parse_ascii.ensures
