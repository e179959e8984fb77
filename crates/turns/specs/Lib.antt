-- The second reader of relative dates: what it answers (RULES 7.12). Then what a reading that has come part of the way answers, which
-- only private contracts cite.
-- Assumes nothing.
pub mod Turns
pub mod Reading
