-- Lanes: definition, section 3.
pub mod Lanes
