-- In order: "any" as its steps in turn; a raw date holds no byte above `9`; what the steps answer to a text that begins with `@`; the
-- numbers that the steps give; "any" within two limits, of which the second allows all that the first allows; when the readers answer
-- 11; "any" as it was before there was an 11; two bounds on the number of pairs; where the mark of `-0000` comes from; the examples of
-- RULES 11 that are marked P; two answers that meet one equation.
pub mod Steps
pub mod LowBytes
pub mod AtSign
pub mod Numbers
pub mod Limits
pub mod TooLarge
pub mod Before
pub mod Bounds
pub mod Marks
pub mod Examples
pub mod Contracts
