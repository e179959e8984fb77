-- The laws of messages. Putting: a message that is written from its end to its front. Examples: three messages.
-- Assumes nothing.
pub mod Putting
pub mod Examples
