pub mod Values
pub mod Wants
