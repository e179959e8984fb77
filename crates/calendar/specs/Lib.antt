-- What the contracts of `calendar` cite. Calendar: months and days by the leap rule. Table: what the month table holds. Dates: a
-- day's date, a date's day, and that a date exists. Back: months earlier. Civil: the same dates with a signed year.
-- Assumes nothing.
pub mod Calendar
pub mod Table
pub mod Dates
pub mod Back
pub mod Civil
