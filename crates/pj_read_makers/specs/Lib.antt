pub mod Bounds
pub mod Known
pub mod Runs
