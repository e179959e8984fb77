-- Words and numbers (RULES 4), and what the other sections of the rules say about bytes. In order: bytes; quoted text as bytes;
-- places; classes of bytes; trimming; words; a walker of words; lines and fields; numbers; plain decimal; a buffer after a call;
-- what the code holds on the way to an answer.
pub mod Bytes
pub mod Quote
pub mod Places
pub mod Trim
pub mod Words
pub mod Walk
pub mod Lines
pub mod Number
pub mod Decimal
pub mod Room
pub mod Held
