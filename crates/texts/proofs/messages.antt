-- What stood at a place.
pub mod Parts
