mod Totals
mod Meaning
mod Growth
mod Sizes
pub mod Refusals
mod Cases
pub mod Promises
