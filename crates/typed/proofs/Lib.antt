pub mod meaning
pub mod Promises
