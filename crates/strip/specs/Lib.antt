-- What the contracts of `strip` cite. Weeks: weekdays and weeks as ISO 8601 has them. Strip: a month's strip, and its bytes. Theorems: what
-- only theorems cite. Held: what only private contracts cite.
-- Assumes nothing.
pub mod Weeks
pub mod Strip
pub mod Theorems
pub mod Held
