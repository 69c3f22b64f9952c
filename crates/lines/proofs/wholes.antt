-- Whole lines: what each says, how long it is, how those by both engines go on, and the three that the definition prints.
pub mod OneLine
pub mod Sizes
pub mod Longer
pub mod Sample
