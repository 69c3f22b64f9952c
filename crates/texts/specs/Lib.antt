-- Typed texts: definition, section 14.
pub mod Cutting
pub mod Steps
pub mod Texts
pub mod Names
pub mod Messages
pub mod Shown
pub mod Typed
