-- What the contracts of `monthstrip` cite. Page: the page of a month, as bytes.
-- Assumes nothing.
pub mod Page
