-- The plain engine: definition, section 16.1, which is sections 4.6 and 4.7 read straight.
pub mod Plain
pub mod Meaning
pub mod Numbers
