pub mod Content
pub mod Misfit
pub mod Marks
pub mod Right
pub mod Readings
pub mod Plainly
pub mod Sample
pub mod Rows
