-- Texts whose blanks are filled.
pub mod Blanks
