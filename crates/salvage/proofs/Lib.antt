-- The laws of salvaging a book (RULES 16). In order: how long rooms must be; the lines that are kept, and the book that they make; lines kept and lines
-- reported; one bad line among good ones, and the last row of the report; a run of good lines and the line behind it; bytes and rows put into a room, if they
-- fit; the pass over a book; what a salvage returns; examples.
pub mod Rooms
pub mod GoodLines
pub mod AddUp
pub mod OneLine
pub mod Runs
pub mod PutRows
pub mod Pass
pub mod Answers
pub mod Examples
