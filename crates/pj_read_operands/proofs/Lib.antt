pub mod Assigns
pub mod Moving
pub mod Wants
