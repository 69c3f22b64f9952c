-- Groups of bits: their laws, the steps that take them in and give them out, and a sheet's bytes and fields as such groups.
pub mod Groups
mod Steps
pub mod Regroup
pub mod Widths
mod Splitting
pub mod RoundTrip
pub mod Packed
pub mod Spare
