mod Bytes
mod Blocks
mod Loading
mod Lines
mod Cuts
mod Taking
mod Printing
mod Shows
mod Faults
mod Bundles
mod Whole
mod Routes
mod Starred
pub mod Promises
