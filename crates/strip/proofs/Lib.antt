-- The laws of the strip, each file over those before it. Weeks: weekdays, Mondays, Thursdays and weeks. IsoWeeks: that they are those of ISO
-- 8601. Months: which month a year and a month name. Filling: a list that is filled place by place. Places: what is shown at a place, and the
-- week of a row, by the numbers that the code has. Writing: what writing a strip answers. Theorems: what RULES 14 promises of a month's
-- strip. Answers: the same of signed years and of dates. Examples: months that are known, computed.
-- Assumes nothing.
pub mod Weeks
pub mod IsoWeeks
pub mod Months
pub mod Filling
pub mod Places
pub mod Writing
pub mod Theorems
pub mod Answers
pub mod Examples
