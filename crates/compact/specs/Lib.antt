-- Compacting a book of stamps (RULES 13.15 to 13.18). In order: the lines that are kept, and what a call returns; what the theorems speak of;
-- what only private functions need.
pub mod Compact
pub mod Theorems
pub mod Held
