-- The rows of the table and their values.
pub mod Values
