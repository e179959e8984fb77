-- The laws of relative dates, each file over those before it. Counts, Landing, Scanning, Cases: the code computes what the
-- definitions say. Texts, Named: two texts in a row; a text with a pair is not one of the names. Bounds: two bounds on the number
-- of pairs. Dates: months earlier, as dates. Joining, Earlier, ReadTwice, Seconds, LetterCase, Unmarked: the theorems that callers
-- may rely on. Examples: those of the rules, computed.
-- Assumes nothing.
pub mod Counts
pub mod Landing
pub mod Scanning
pub mod Cases
pub mod Texts
pub mod Named
pub mod Bounds
pub mod Dates
pub mod Joining
pub mod Earlier
pub mod ReadTwice
pub mod Seconds
pub mod LetterCase
pub mod Unmarked
pub mod Examples
