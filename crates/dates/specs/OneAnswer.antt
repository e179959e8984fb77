-- RULES 12.5: what it means that a contract fixes the answer. To a proof a contract is a relation, `Post`, between the lifetimes of a
-- call, its arguments, its result, and its arguments as they are when it returns.
-- Assumes nothing.
use Rattle.std.specs.Prelude.{◌≡◌}

module _ {Lifetimes : Type 0} {Arguments Result Exit : Lifetimes → Type 0} (Post : (κ : Lifetimes) → Arguments κ → Result κ → Exit κ → Type 0) where
  -- two results that meet the contract for the same arguments are equal
  abbrev pub OneAnswer : Type 0
  OneAnswer = (κ : Lifetimes) (a : Arguments κ) (r s : Result κ) (e f : Exit κ) → Post κ a r e → Post κ a s f → r ≡ s

  -- and so is what the call leaves in the variables and buffers of its caller: `left` picks that out
  abbrev pub OneAnswerAnd : (Left : Type 0) → ((κ : Lifetimes) → Exit κ → Left) → Type 0
  OneAnswerAnd Left left =
      (κ : Lifetimes) (a : Arguments κ) (r s : Result κ) (e f : Exit κ) → Post κ a r e → Post κ a s f → (r ≡ s) × (left κ e ≡ left κ f)
