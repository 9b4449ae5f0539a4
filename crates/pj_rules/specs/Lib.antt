pub mod Counts
pub mod Limits
pub mod Names
pub mod Numbering
