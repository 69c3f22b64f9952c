-- The worksheet that is signed.
mod Signs
mod Pairing
mod Tries
mod Meaning
pub mod Promises
