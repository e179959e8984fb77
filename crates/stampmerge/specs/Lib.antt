-- What the contracts of `stampmerge` cite. Messages: what is said of a list that is at fault, as bytes.
-- Assumes nothing.
pub mod Messages
