-- The call from C: definition, section 9.
pub mod Words
pub mod Plan
