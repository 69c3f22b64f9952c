-- What typed texts mean.
pub mod Cuts
pub mod Stepping
pub mod Names
pub mod Keeping
pub mod Filling
pub mod Sound
pub mod Complete
pub mod Places
pub mod Wholes
pub mod Writing
pub mod Again
pub mod Ones
pub mod Faults
pub mod Numbers
pub mod Form
pub mod Sizes
pub mod Sample
