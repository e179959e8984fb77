-- `relative::words::count` meets its contract: digits are not one of the names, so trying digits first changes nothing.
use Rattle.std.specs.Prelude.{None, Option, Some}
use Rattle.std.specs.Option.{MatchOption}
use mathlib.Core.Path.{◌≡◌, sym, ◌∙◌}
use mathlib.Core.List.{List}
use Prim.Native.Nat.{ℕ}
use borrow.Author.Rules.{rules}
use Rattle.text.specs.Number.{digits_of, fit}
use Rattle.relative.specs.Words.{spelled, count_of}
use Rattle.relative.proofs.Counts.{spelled_of_digits}
use Rattle.relative.proofs.words.count.Goals as goal

count_of-by_digits : (w : List ℕ) (d r : Option ℕ) {P : Type 0} → d ≡ fit 9223372036854775807 (digits_of w) → (P → r ≡ spelled w None) → MatchOption d P (λ x. r ≡ Some x) → r ≡ count_of w
unfolding count_of
count_of-by_digits w None r e f h = rw (← e) (f h)
count_of-by_digits w (Some n) r e f h = h ∙ e ∙ sym (spelled_of_digits _ _ _ _ (sym e))

pub returns : goal.returns
returns c = count_of-by_digits _ _ _ c.digits.ensures (λ p. search rules) c.or_else.ensures
