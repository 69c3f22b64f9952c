-- Sheets made of figures, read and written: each answer, exactly when it is given, and there and back.
pub mod Valid
pub mod Making
pub mod Answers
pub mod Reading
pub mod OneWriting
pub mod Writing
