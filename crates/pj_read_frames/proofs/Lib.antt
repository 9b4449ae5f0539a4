pub mod Ending
pub mod Paths
pub mod Stacking
