-- A damaged book (RULES 16). In order: the lines that are kept, the lines that are dropped, the report, and what the call returns; what the
-- theorems speak of; what only private functions need.
pub mod Salvage
pub mod Theorems
pub mod Held
