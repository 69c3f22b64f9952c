-- The rows of section 8: what each room tells of its own, the checks in their order, and what the code then says.
pub mod Rooms
pub mod Checked
pub mod Readings
pub mod Exactly
pub mod Exchanged
