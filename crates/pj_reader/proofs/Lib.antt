pub mod Moving
pub mod Parens
pub mod Progress
pub mod Words
