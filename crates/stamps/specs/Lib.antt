-- A book of stamps (RULES 13). In order: numbers and stamps; a line judged alone; a line written from its values; the lines of a book and
-- its first bad one; lines copied to a room; the listing; what the theorems speak of; what only private functions need.
pub mod Stamps
pub mod Lines
pub mod Writing
pub mod Book
pub mod Copies
pub mod Listing
pub mod Theorems
pub mod Held
