-- The two engines side by side: definition, section 16.
pub mod Both
