-- The levels of frequencies and the design level: the walks that find them, and what they mean.
pub mod Frequencies
pub mod Walks
pub mod Bands
pub mod Meaning
