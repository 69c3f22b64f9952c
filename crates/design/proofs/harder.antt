-- Demand 3 and how much deeper: two sheets that differ in one figure, row by row, and their cuts and widths.
pub mod Compared
pub mod Rows
pub mod Widths
pub mod Never
mod Pairs
pub mod Cured
pub mod Deepening
pub mod Growths
