-- What the entries for C read as the current time and as a rule, and what they return and store.
pub mod Entries
