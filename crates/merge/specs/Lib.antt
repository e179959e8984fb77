-- One book from two lists (RULES 15). In order: two front lines; two lists and what is wrong with them; the merged book, and the paths whose
-- keys differ; what the theorems speak of; what only private functions need.
pub mod Fronts
pub mod Lists
pub mod Merge
pub mod Theorems
pub mod Held
