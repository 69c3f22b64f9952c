-- Texts put where there is room.
pub mod Typed
