-- The laws of books (RULES 13). In order: scans; printed numbers; tails of stamps; stamps, and stamps at the front of a longer text; fields;
-- `hull` lines, `since` lines and all lines as they are read; lines as they are written, part behind part; books; the marks of lines, and what they pick; copies;
-- listings; texts without a last piece; lines read back and written back; two bounds on the pairs of a relative date; examples.
pub mod Scans
pub mod Printed
pub mod Tails
pub mod Stamps
pub mod Fronts
pub mod Fields
pub mod HullLines
pub mod SinceLines
pub mod Reading
pub mod Writing
pub mod Putting
pub mod Books
pub mod Marks
pub mod Picked
pub mod Copies
pub mod Listings
pub mod WholeTexts
pub mod ReadBack
pub mod WriteBack
pub mod FirstHulls
pub mod Bounds
pub mod Examples
pub mod WritingExamples
pub mod BookExamples
