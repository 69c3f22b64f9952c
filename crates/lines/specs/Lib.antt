-- The lines of the printing program.
pub mod Decimals
pub mod Lines
pub mod Starred
