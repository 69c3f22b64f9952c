-- A number's text: its digits, what they mean, and that they mean nothing else.
pub mod Digits
pub mod Meaning
pub mod Texts
