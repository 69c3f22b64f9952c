-- The classes: definition, section 7.
pub mod Classes
