pub mod sheets
mod Starred
pub mod Promises
