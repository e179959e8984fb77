-- The laws of the second reader of relative dates. Readings: what a reading answers along its way. Rests: the first word of a text,
-- and the rest of it. Alike: the second reader answers as the first. Bounds: two bounds on the number of pairs.
-- Assumes nothing.
pub mod Readings
pub mod Rests
pub mod Alike
pub mod Bounds
