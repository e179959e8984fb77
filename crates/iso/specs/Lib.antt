-- Reading ISO dates (RULES 6). In order: parts of a text; the cut into time and offset; the time; the offset; the three forms; the
-- instant and the answer; worked examples; what theorems speak of; what private contracts speak of.
-- Assumes nothing.
pub mod Parts
pub mod Cut
pub mod Clock
pub mod Offset
pub mod Forms
pub mod Iso
pub mod Examples
pub mod Theorems
pub mod Held
