-- What a filled text is, byte by byte, and how long.
pub mod Trimming
pub mod Columns
pub mod Filling
pub mod Sizes
pub mod Sample
