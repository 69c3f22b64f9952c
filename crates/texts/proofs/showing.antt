-- Sheets shown and written.
pub mod Sheets
pub mod Rows
