-- Texts put into a buffer: at their place, digit by digit, word by word, and what stays as it was.
pub mod Placing
pub mod Counting
pub mod Signs
pub mod Spacing
pub mod Fitting
