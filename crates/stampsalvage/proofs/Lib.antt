-- The laws of messages. Putting: how long the words of a message are, and putting them one behind the other. Examples: the message on the row of
-- any line, and three messages.
-- Assumes nothing.
pub mod Putting
pub mod Examples
