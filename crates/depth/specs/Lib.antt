-- Depth: definition, section 4, and the dredging interval of section 1.
pub mod Interval
pub mod Squat
pub mod Depth
pub mod Worksheet
pub mod Reasons
pub mod Harder
pub mod Starred
