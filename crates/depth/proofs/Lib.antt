pub mod squat
pub mod Sizes
mod walks
pub mod cuts
pub mod Refusals
mod Cases
pub mod Promises
