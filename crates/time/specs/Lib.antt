-- Answers and the range (RULES 2) and writing (RULES 9). In order: the numbers of the answers; the range; the local clock; the header
-- writer; the buffer for a header; the ISO writer; tables of worked examples; what theorems speak of.
-- Assumes nothing.
pub mod Answers
pub mod Range
pub mod Clock
pub mod Header
pub mod Buf
pub mod Iso
pub mod Rows
pub mod Theorems
