-- The critical speed: definition, section 13.
pub mod Table
pub mod Lines
pub mod Critical
pub mod Shown
pub mod Orders
pub mod Weights
pub mod Refusals
