-- Laws. In order: lists at a place that a loop has reached; runs of bytes and places; std's methods; the first place of a byte; taking words; a
-- walker's words; lines and fields; numbers; digits; trimming; plain decimal; bytes written in front of a
-- place, and one part behind the other; texts whose bytes are known; ASCII texts and plain bytes; signed decimals; numbers as they were before any was called
-- too large; letter case; examples of the rules.
pub mod Lists
pub mod Runs
pub mod Library
pub mod FirstPlaces
pub mod Taking
pub mod Walking
pub mod Lines
pub mod Numbers
pub mod Digits
pub mod Trimming
pub mod Decimals
pub mod Putting
pub mod Behind
pub mod Texts
pub mod Plain
pub mod Signed
pub mod Before
pub mod LowerCase
pub mod Examples
