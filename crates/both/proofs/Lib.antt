mod Steps
mod Engines
mod Standing
mod Agreeing
mod Codes
pub mod Promises
