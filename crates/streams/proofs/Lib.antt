-- The laws of `streams`. Messages: a message that is put together step by step.
-- Assumes nothing.
mod Messages
