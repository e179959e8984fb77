-- In order: RULES 8, "any"; the examples of RULES 11 that are marked P; what the theorems speak of; RULES 12.5, what it means that a
-- contract fixes the answer.
pub mod Any
pub mod Examples
pub mod Theorems
pub mod OneAnswer
