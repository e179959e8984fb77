-- Headers and raw dates (RULES 5). In order: what an offset's word holds, for both readers; the header; raw dates; the examples
-- that are proved together; what the theorems speak of; what the code holds on the way to an answer.
pub mod Offset
pub mod Header
pub mod Raw
pub mod Examples
pub mod Theorems
pub mod Held
