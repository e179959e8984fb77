-- What the contracts of `stampsalvage` cite. Messages: what is said of a line that is dropped, as bytes.
-- Assumes nothing.
pub mod Messages
