mod Natural
pub mod Promises
