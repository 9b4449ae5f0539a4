pub mod Interned
pub mod Kinds
pub mod Kept
