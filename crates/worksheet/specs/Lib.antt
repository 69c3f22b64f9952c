-- The worksheet that is signed: definition, section 15.
pub mod Filling
pub mod Framing
pub mod Rows
pub mod Levels
pub mod Traffic
pub mod Depths
pub mod Words
pub mod Items
pub mod Widths
pub mod Bends
pub mod Speeds
pub mod Classes
pub mod Refusals
pub mod Pages
pub mod Routes
