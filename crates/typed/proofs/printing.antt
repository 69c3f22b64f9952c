-- Texts put into a buffer: bytes copied one by one, tokens, figures, units, and the lines made of them.
pub mod Texts
pub mod Figures
pub mod Matched
pub mod Units
pub mod Words
pub mod Expected
