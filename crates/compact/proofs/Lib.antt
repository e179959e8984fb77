-- The laws of compacting a book (RULES 13.15 to 13.17). In order: a text and its last line; the path of a line; buckets and chains of kept lines; the
-- lines that are kept; a book walked from its last line to its first, and the kept lines copied; what is above a line; a book that goes on; the
-- compacted book; two bounds on the pairs of a relative date; examples.
pub mod LastLines
pub mod Paths
pub mod Buckets
pub mod Chains
pub mod Kept
pub mod Keeping
pub mod Copying
pub mod Above
pub mod Added
pub mod Theorems
pub mod Bounds
pub mod Examples
