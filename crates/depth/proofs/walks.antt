pub mod Findings
pub mod Tries
pub mod Filled
pub mod Ending
pub mod Following
