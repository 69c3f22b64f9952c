-- The answer: its numbers, its figures, and each way out of the checks that leads to it.
pub mod Numbers
pub mod Held
pub mod Figures
pub mod Worked
