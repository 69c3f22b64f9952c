mod Placing
mod Planning
mod Reading
pub mod Promises
