-- What a line says in the place of a row: a text at the front of bytes, the digits there, and what is printed to compare.
pub mod Standing
pub mod Digits
pub mod Printed
