mod Traffic
pub mod Promises
