mod Meaning
mod Ways
pub mod Refusals
mod Showing
pub mod Promises
