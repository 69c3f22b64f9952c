-- A sheet's fields and their figures.
pub mod Beds
pub mod Levels
pub mod SameFields
