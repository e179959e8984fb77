-- Laws, and worked examples. In order: a text without one of its bytes; the cut, and the scan that finds it; the time; the offset; the
-- fields and the forms; the instant; digits, and the line that the ISO writer writes; what a caller may rely on; that a written line is
-- read back; worked examples.
-- Assumes nothing.
pub mod Places
pub mod Cuts
pub mod Marks
pub mod Times
pub mod Offsets
pub mod FormFields
pub mod Instants
pub mod Digits
pub mod Lines
pub mod Theorems
pub mod ReadBack
pub mod Examples
