-- The gauge's count table: definition, section 2.
pub mod Table
pub mod Adding
pub mod Frequency
pub mod Designing
pub mod Walks
