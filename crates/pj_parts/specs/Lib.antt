pub mod Capped
pub mod Fits
pub mod Given
pub mod Kept
pub mod Reading
pub mod Spelling
