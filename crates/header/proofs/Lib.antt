-- Laws. In order: an offset's word; an offset's word of unsigned fields; the first word's number; one pass over a text; what the
-- readers answer by it; the usual tail; what they answer to it and to a number alone; what is written is read back; the offsets that
-- a header can give; when a number is too large; what a raw reader means, within any limits; rule 1 and rule 2; where the raw and
-- the header reader answer alike; both as they were before there was an 11; the worked examples.
pub mod Offsets
pub mod Unsigned
pub mod FirstWord
pub mod Pass
pub mod Readers
pub mod Usual
pub mod Shortcuts
pub mod ReadBack
pub mod OwnForm
pub mod Reach
pub mod Beyond
pub mod RawDates
pub mod Rules
pub mod Alike
pub mod Before
pub mod Examples
