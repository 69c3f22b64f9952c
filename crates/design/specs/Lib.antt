-- The design: definition, section 8.
pub mod Design
pub mod Answers
pub mod Refusals
pub mod Numbers
pub mod Harder
pub mod Starred
pub mod Growth
