-- `relative::words::unit_named` meets its contract.
use Rattle.std.specs.Prelude.{map}
use Rattle.std.specs.Option.{unwrap_or}
use Prim.Native.String.{String}
use mathlib.Core.Path.{◌≡◌, refl}
use mathlib.Core.List.{List, [], ◌∷◌}
use Prim.Native.Nat.{ℕ}
use Rattle.text.specs.Quote.{bytes}
use Rattle.text.proofs.Lists.{by_test}
use Rattle.relative.specs.Words.{is, value_among, unit_among, unit_names, unit_named}
use Rattle.relative.specs.declared.pair.Unit.{Unit}
use Rattle.relative.specs.declared.pair.Unit.TheVariants.{Unknown}
use Rattle.relative.proofs.words.unit_named.Goals as goal

unit_among-value_among : (ns : List (String × Unit)) (w : List ℕ) → unwrap_or (value_among (map (λ n. (bytes n.0, n.1)) ns) w) Unknown ≡ unit_among ns w
unit_among-value_among [] w = refl
unit_among-value_among (n ∷ ns) w = by_test (is w n.0) (λ e. rw e) (λ e. rw e (unit_among-value_among ns w))

pub returns : goal.returns
unfolding unit_named
returns c = rw (c.unwrap_or.ensures, c.value_of.ensures) (unit_among-value_among unit_names c.args.word.now)
