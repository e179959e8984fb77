-- The law behind every statement that a contract fixes the answer (RULES 12.5).
-- Assumes nothing.
use mathlib.Core.Path.{◌≡◌, ◌∙◌, sym}

-- two answers that meet the same equation are equal
pub one_answer : {A : Type 0} {a b f : A} → a ≡ f → b ≡ f → a ≡ b
one_answer p q = p ∙ sym q
