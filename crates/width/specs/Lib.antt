-- The width and the bends: definition, sections 5 and 6.
pub mod Bands
pub mod Additions
pub mod Width
pub mod Bends
pub mod Refusals
pub mod Comparing
pub mod Starred
