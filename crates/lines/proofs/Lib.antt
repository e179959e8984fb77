-- The laws of this crate. In order: the layout of a line; a row put into a room; the answer of a line; lines in a buffer; what is kept
-- of one; an input that comes piece by piece; a whole run; that each contract has one answer; the examples of RULES 10.
pub mod Layouts
pub mod Printing
pub mod Answering
pub mod Buffers
pub mod Keeping
pub mod Flow
pub mod Run
pub mod OneAnswer
pub mod Examples
