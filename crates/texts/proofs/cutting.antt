-- A text's lines.
pub mod Lines
