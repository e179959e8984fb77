-- Relative dates, RULES 7. In order: what a single word means; the pairs of a text; a step back; the reader's answer. Then what
-- the theorems of RULES 12.3, 12.4 and 12.10 speak of, texts that may be joined, dates some months earlier, two bounds on the pairs;
-- the examples that RULES 11 marks P. Last, how the code holds its values on the way to an answer.
-- Assumes nothing.
pub mod Words
pub mod Pairs
pub mod Steps
pub mod Relative
pub mod Joined
pub mod Months
pub mod ReadTwice
pub mod Bounds
pub mod Examples
pub mod Held
