-- The text that the printing program prints, and what its own steps answer.
pub mod Input
pub mod Output
pub mod Route
pub mod Text
pub mod Printing
pub mod Showing
pub mod Typing
pub mod Starred
pub mod Worksheets
