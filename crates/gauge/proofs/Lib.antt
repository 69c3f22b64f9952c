mod table
mod adding
mod designing
pub mod Refusals
mod Steps
pub mod Promises
