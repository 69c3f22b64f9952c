mod putting
-- Typed texts.
pub mod meaning
pub mod Promises
