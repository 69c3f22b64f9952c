-- The typed sheet, line by line: definition, section 14.2.
pub mod Rows
pub mod Lines
pub mod Reading
