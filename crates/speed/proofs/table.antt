-- The table: its lines, and what is always true of it.
pub mod Grid
pub mod Facts
