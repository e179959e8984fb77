-- Laws. In order: the range, and times as numbers from 0; the header as it is written; offsets cut to whole minutes; the
-- ISO line; which times it refuses; what a caller may rely on; answers as they were before there was an 11; tables of examples joined;
-- worked examples.
-- Assumes nothing.
pub mod Ranges
pub mod Headers
pub mod Minutes
pub mod Isos
pub mod Refusals
pub mod Theorems
pub mod Before
pub mod Rows
pub mod Examples
