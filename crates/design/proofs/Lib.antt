mod rows
mod harder
mod answers
mod Starred
mod Fitting
pub mod Promises
