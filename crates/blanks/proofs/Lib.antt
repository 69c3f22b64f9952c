mod meaning
pub mod Promises
