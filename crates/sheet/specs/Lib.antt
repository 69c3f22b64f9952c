-- The sheet: definition, section 1.
pub mod Bits
pub mod Fields
pub mod Packing
pub mod Regrouping
pub mod Sheets
pub mod Refusals
pub mod CaseS
