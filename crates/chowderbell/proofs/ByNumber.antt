-- RULES 5.8: what the number of a rule gives: 1 the answer by rule 1, 2 that by rule 2, any other number the refusal 2, or 1
-- for a text with a byte of 128 or more.
-- Assumes nothing.
use Rattle.std.specs.Prelude.{Result}
use mathlib.Core.Path.{◌≡◌, refl}
use mathlib.Core.List.{List}
use Prim.Native.Nat.{ℕ}
use borrow.Author.Tests.{ne_eqb}
use Rattle.header.specs.Raw.{Limits, rule1, rule2}
use Rattle.chowderbell.specs.Entries.{rule_of, no_rule, ruled}
use Rattle.time.specs.declared.Refusal.{Refusal}
use Rattle.time.specs.declared.Time.{Time}

module _ (by : Limits → Result Time Refusal) (s : List ℕ) where
  pub by_number_1 : ruled (rule_of 1) by s ≡ by rule1
  by_number_1 = refl

  pub by_number_2 : ruled (rule_of 2) by s ≡ by rule2
  by_number_2 = refl

  pub by_another_number : (n : ℕ) → (n ≡ 1 → ⊥) → (n ≡ 2 → ⊥) → ruled (rule_of n) by s ≡ no_rule s
  by_another_number n not-1 not-2 = rw (ne_eqb n 1 not-1, ne_eqb n 2 not-2)
