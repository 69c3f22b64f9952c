pub mod decimals
pub mod putting
mod wholes
pub mod Promises
