-- What the lines mean: a line says a figure exactly when it is the figure's line, and no two rows or figures have one line.
pub mod Fronts
pub mod Ways
pub mod Names
pub mod Bytes
pub mod Numbers
pub mod Words
pub mod Complete
pub mod Starred
pub mod Sample
