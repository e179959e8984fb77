-- The program `whenread` (RULES 10). In order: the layout of a line; an answer line; the answer of a line; lines in a buffer; a whole
-- run.
pub mod Layout
pub mod Rows
pub mod Answers
pub mod Lines
pub mod Run
