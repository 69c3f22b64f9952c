mod Easier
pub mod Settling
pub mod LeastCut
pub mod Reasons
pub mod Demand
pub mod Silted
