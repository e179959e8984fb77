-- What contracts of the programs cite. Names: the name of an input in a message, options, and a message.
-- Assumes nothing.
pub mod Names
