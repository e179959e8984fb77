-- In order: what the number of a rule gives; the mark as a byte; two answers that meet the contract of a public call are equal.
pub mod ByNumber
pub mod Marks
pub mod OneAnswer
