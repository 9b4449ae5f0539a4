pub mod Faults
pub mod MemDepots
pub mod MemSinks
pub mod Memory
pub mod Stored
pub mod Streams
pub mod Texts
pub mod Written
