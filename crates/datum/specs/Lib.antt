-- The datums: definition, sections 4.1 and 4.8.
pub mod Datum
