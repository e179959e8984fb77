-- The laws of the calendar, each file over those before it. Lengths: years and months one after the other. Walk: a test along the
-- months. Cycle: 400 years, first days by rule, and their order. Dates: a day's one date. Back: months earlier. Civil: signed
-- years. Theorems: what RULES 3 promises. WholeTable: one table has what
-- `MonthTable::whole` promises. Examples: its facts, computed.
-- Assumes nothing.
pub mod Lengths
pub mod Walk
pub mod Cycle
pub mod Dates
pub mod Back
pub mod Civil
pub mod Theorems
pub mod WholeTable
pub mod Examples
