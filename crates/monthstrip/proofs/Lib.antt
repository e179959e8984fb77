-- The laws of pages. Pages: a page that is written from its end to its front. Answers: what writing a page answers. Examples: a row, a title, a page.
-- Assumes nothing.
pub mod Pages
pub mod Answers
pub mod Examples
