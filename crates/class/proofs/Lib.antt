mod Bounds
mod Routes
mod Starred
pub mod Promises
