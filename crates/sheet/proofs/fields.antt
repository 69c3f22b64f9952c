-- When a field is bad, and the search for the first that is.
pub mod Rules
pub mod Runs
mod BadRuns
pub mod BadFields
