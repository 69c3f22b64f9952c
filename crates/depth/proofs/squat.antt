pub mod Columns
pub mod Table
