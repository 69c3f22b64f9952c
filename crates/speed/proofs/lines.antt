-- Speeds by their weights, straight lines over one grid and over three, in any order and as sums, and how great they can be.
pub mod Weighing
pub mod Straight
pub mod Orders
pub mod Sums
pub mod Threefold
pub mod Sizes
